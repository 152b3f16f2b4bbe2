-- No second answer, no second final table and no second lent page meets a function's contract: `Learnt` is the contract as a caller may use it,
-- a the arguments, r the answer, s the buffers at exit. A struct is equal in every field.
-- Assumes nothing.
use Prim.Native.Nat.{ℕ}
use mathlib.Core.Path.{◌≡◌, sym, ap, ◌∙◌}
use mathlib.Core.List.{List}
use contract.Lifetimes.{Lfts}
use Rattle.pagefile.specs.Seen.{Seen, seen}
use Rattle.pagefile.proofs.pagefile_format.Reads as format
use Rattle.pagefile.proofs.pagefile_create.Reads as create
use Rattle.pagefile.proofs.pagefile_write.Reads as write
use Rattle.pagefile.proofs.pagefile_read.Reads as read
use Rattle.pagefile.proofs.pagefile_info.Reads as info
use Rattle.pagefile.proofs.pagefile_destroy.Reads as destroy
use Rattle.pagefile.proofs.pagefile_set_expiry.Reads as set-expiry
use Rattle.pagefile.proofs.pagefile_scavenge.Reads as scavenge
use Rattle.pagefile.proofs.pagefile_look.Reads as look

one : {A : Type 0} (l : Seen A) (r r' : A) (lent lent' hx hx' px px' : List ℕ) → seen r lent hx px ≡ l → seen r' lent' hx' px' ≡ l → (r ≡ r') × (lent ≡ lent') × (hx ≡ hx') × (px ≡ px')
one {A} l r r' lent lent' hx hx' px px' p q =
    let e : seen r lent hx px ≡ seen r' lent' hx' px' = p ∙ sym q in
    (ap (λ (k : Seen A). k.answer) e, ap (λ (k : Seen A). k.page) e, ap (λ (k : Seen A). k.headers) e, ap (λ (k : Seen A). k.pages) e)

-- both tables are lent to be written
abbrev pub OneOfBoth : {A : Type 0} (r r' : A) (hx hx' px px' : List ℕ) → Type 0
OneOfBoth r r' hx hx' px px' = (r ≡ r') × (hx ≡ hx') × (px ≡ px')

pub format_one : (κs : Lfts 2) (a r r' s s' : _) → format.Learnt κs a r s → format.Learnt κs a r' s' → OneOfBoth r r' s.0.now s'.0.now s.1.0.now s'.1.0.now
format_one κs a r r' s s' p q = let o = one _ r r' _ _ _ _ _ _ p q in (o.0, o.2, o.3)

pub create_one : (κs : Lfts 4) (a r r' s s' : _) → create.Learnt κs a r s → create.Learnt κs a r' s' → OneOfBoth r r' s.0.now s'.0.now s.1.0.now s'.1.0.now
create_one κs a r r' s s' p q = let o = one _ r r' _ _ _ _ _ _ p q in (o.0, o.2, o.3)

pub write_one : (κs : Lfts 4) (a r r' s s' : _) → write.Learnt κs a r s → write.Learnt κs a r' s' → OneOfBoth r r' s.0.now s'.0.now s.1.0.now s'.1.0.now
write_one κs a r r' s s' p q = let o = one _ r r' _ _ _ _ _ _ p q in (o.0, o.2, o.3)

pub read_one : (κs : Lfts 4) (a r r' s s' : _) → read.Learnt κs a r s → read.Learnt κs a r' s' → (r ≡ r') × (s.1.1.1.1.1.1.0.now ≡ s'.1.1.1.1.1.1.0.now) × (s.0.now ≡ s'.0.now)
read_one κs a r r' s s' p q = let o = one _ r r' _ _ _ _ _ _ p q in (o.0, o.1, o.2)

pub info_one : (κs : Lfts 3) (a r r' s s' : _) → info.Learnt κs a r s → info.Learnt κs a r' s' → (r ≡ r') × (s.0.now ≡ s'.0.now)
info_one κs a r r' s s' p q = let o = one _ r r' _ _ _ _ _ _ p q in (o.0, o.2)

pub destroy_one : (κs : Lfts 3) (a r r' s s' : _) → destroy.Learnt κs a r s → destroy.Learnt κs a r' s' → OneOfBoth r r' s.0.now s'.0.now s.1.0.now s'.1.0.now
destroy_one κs a r r' s s' p q = let o = one _ r r' _ _ _ _ _ _ p q in (o.0, o.2, o.3)

pub set_expiry_one : (κs : Lfts 3) (a r r' s s' : _) → set-expiry.Learnt κs a r s → set-expiry.Learnt κs a r' s' → OneOfBoth r r' s.0.now s'.0.now s.1.0.now s'.1.0.now
set_expiry_one κs a r r' s s' p q = let o = one _ r r' _ _ _ _ _ _ p q in (o.0, o.2, o.3)

pub scavenge_one : (κs : Lfts 3) (a r r' s s' : _) → scavenge.Learnt κs a r s → scavenge.Learnt κs a r' s' → OneOfBoth r r' s.0.now s'.0.now s.1.0.now s'.1.0.now
scavenge_one κs a r r' s s' p q = let o = one _ r r' _ _ _ _ _ _ p q in (o.0, o.2, o.3)

pub look_one : (κs : Lfts 2) (a r r' s s' : _) → look.Learnt κs a r s → look.Learnt κs a r' s' → r ≡ r'
look_one κs a r r' s s' p q = p ∙ sym q
