-- No second answer, no second final table and no second lent page meets a border's contract: `Learnt` is the contract as a caller may use it,
-- a the arguments, r the result, s the buffers at exit.
-- Assumes nothing.
use Prim.Native.Nat.{ℕ}
use mathlib.Core.Path.{◌≡◌, sym, ap, ◌∙◌}
use mathlib.Core.List.{List}
use contract.Lifetimes.{Lfts}
use Rattle.std.specs.Prelude.{Result}
use Rattle.paper.specs.declared.Refusal.{Refusal}
use Rattle.paper.specs.Answers.{Gift, an_id, facts, counts, no_gift, report}
use Rattle.paper.specs.Service.{Left}
use Rattle.paper.proofs.Reports.{id_one, facts_one, counts_one, nothing_one}
use Rattle.service.specs.Border.{left}
use Rattle.service.proofs.format.Reads as format
use Rattle.service.proofs.create.Reads as create
use Rattle.service.proofs.write.Reads as write
use Rattle.service.proofs.read.Reads as read
use Rattle.service.proofs.info.Reads as info
use Rattle.service.proofs.destroy.Reads as destroy
use Rattle.service.proofs.set_expiry.Reads as set-expiry
use Rattle.service.proofs.scavenge.Reads as scavenge
use Rattle.service.proofs.look.Reads as look
use Rattle.service.proofs.look_slot.Reads as look-slot

-- both tables are lent to be written
abbrev pub OneOfBoth : {A : Type 0} (a a' : A) (hx hx' px px' : List ℕ) → Type 0
OneOfBoth a a' hx hx' px px' = (a ≡ a') × (hx ≡ hx') × (px ≡ px')

-- a result is known by its report
one : {A : Type 0} (g : A → Gift) → ((r r' : Result A Refusal) → report g r ≡ report g r' → r ≡ r') → (l : Left) (r r' : Result A Refusal) (lent lent' hx hx' px px' : List ℕ)
    → left (report g r) lent hx px ≡ l → left (report g r') lent' hx' px' ≡ l → (r ≡ r') × (lent ≡ lent') × (hx ≡ hx') × (px ≡ px')
one g known l r r' lent lent' hx hx' px px' p q =
    let e : left (report g r) lent hx px ≡ left (report g r') lent' hx' px' = p ∙ sym q in
    (known r r' (ap (λ (k : Left). k.report) e), ap (λ (k : Left). k.page) e, ap (λ (k : Left). k.headers) e, ap (λ (k : Left). k.pages) e)

pub format_one : (κs : Lfts 2) (a r r' s s' : _) → format.Learnt κs a r s → format.Learnt κs a r' s' → OneOfBoth r r' s.0.now s'.0.now s.1.0.now s'.1.0.now
format_one κs a r r' s s' p q = let o = one no_gift nothing_one _ r r' _ _ _ _ _ _ p q in (o.0, o.2, o.3)

pub create_one : (κs : Lfts 4) (a r r' s s' : _) → create.Learnt κs a r s → create.Learnt κs a r' s' → OneOfBoth r r' s.0.now s'.0.now s.1.0.now s'.1.0.now
create_one κs a r r' s s' p q = let o = one an_id id_one _ r r' _ _ _ _ _ _ p q in (o.0, o.2, o.3)

pub write_one : (κs : Lfts 4) (a r r' s s' : _) → write.Learnt κs a r s → write.Learnt κs a r' s' → OneOfBoth r r' s.0.now s'.0.now s.1.0.now s'.1.0.now
write_one κs a r r' s s' p q = let o = one an_id id_one _ r r' _ _ _ _ _ _ p q in (o.0, o.2, o.3)

pub read_one : (κs : Lfts 4) (a r r' s s' : _) → read.Learnt κs a r s → read.Learnt κs a r' s' → (r ≡ r') × (s.1.1.1.1.1.1.0.now ≡ s'.1.1.1.1.1.1.0.now) × (s.0.now ≡ s'.0.now)
read_one κs a r r' s s' p q = let o = one no_gift nothing_one _ r r' _ _ _ _ _ _ p q in (o.0, o.1, o.2)

pub info_one : (κs : Lfts 3) (a r r' s s' : _) → info.Learnt κs a r s → info.Learnt κs a r' s' → (r ≡ r') × (s.0.now ≡ s'.0.now)
info_one κs a r r' s s' p q = let o = one facts facts_one _ r r' _ _ _ _ _ _ p q in (o.0, o.2)

pub destroy_one : (κs : Lfts 3) (a r r' s s' : _) → destroy.Learnt κs a r s → destroy.Learnt κs a r' s' → OneOfBoth r r' s.0.now s'.0.now s.1.0.now s'.1.0.now
destroy_one κs a r r' s s' p q = let o = one no_gift nothing_one _ r r' _ _ _ _ _ _ p q in (o.0, o.2, o.3)

pub set_expiry_one : (κs : Lfts 3) (a r r' s s' : _) → set-expiry.Learnt κs a r s → set-expiry.Learnt κs a r' s' → OneOfBoth r r' s.0.now s'.0.now s.1.0.now s'.1.0.now
set_expiry_one κs a r r' s s' p q = let o = one an_id id_one _ r r' _ _ _ _ _ _ p q in (o.0, o.2, o.3)

pub scavenge_one : (κs : Lfts 3) (a r r' s s' : _) → scavenge.Learnt κs a r s → scavenge.Learnt κs a r' s' → OneOfBoth r r' s.0.now s'.0.now s.1.0.now s'.1.0.now
scavenge_one κs a r r' s s' p q = let o = one counts counts_one _ r r' _ _ _ _ _ _ p q in (o.0, o.2, o.3)

pub look_one : (κs : Lfts 2) (a r r' s s' : _) → look.Learnt κs a r s → look.Learnt κs a r' s' → r.now ≡ r'.now
look_one κs a r r' s s' p q = p ∙ sym q

pub look_slot_one : (κs : Lfts 2) (a r r' s s' : _) → look-slot.Learnt κs a r s → look-slot.Learnt κs a r' s' → r ≡ r'
look_slot_one κs a r r' s s' p q = p ∙ sym q
