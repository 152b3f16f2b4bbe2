-- No second answer, no second final table and no second lent page meets an inner request's contract: `Learnt` is the contract as a caller may use it,
-- a the arguments, r the answer, s the buffers at exit. A table at exit is bytes and has kept its length, as every lent buffer has.
-- Assumes nothing.
use Prim.Native.Nat.{ℕ}
use mathlib.Core.Path.{◌≡◌, sym, ap, ◌∙◌}
use mathlib.Core.List.{List}
use lib.ListN.{length}
use contract.Lifetimes.{Lfts}
use Rattle.bits.specs.Field.{Bytes}
use Rattle.paper.specs.declared.Bank.{Bank}
use Rattle.paper.specs.Answers.{Report}
use Rattle.paper.specs.Bytes.{headers_length, pages_length, tables_from}
use Rattle.paper.proofs.Reports.{id_one, facts_one, counts_one, nothing_one}
use Rattle.records.proofs.Tables.{hs_same, ps_same}
use Rattle.requests.specs.Seen.{Shown, shows}
use Rattle.requests.proofs.create.Reads as create
use Rattle.requests.proofs.write.Reads as write
use Rattle.requests.proofs.read.Reads as read
use Rattle.requests.proofs.info.Reads as info
use Rattle.requests.proofs.destroy.Reads as destroy
use Rattle.requests.proofs.set_expiry.Reads as set-expiry
use Rattle.requests.proofs.scavenge.Reads as scavenge
use Rattle.requests.proofs.format.format.Reads as format
use Rattle.requests.proofs.look.look.Reads as look
use Rattle.requests.proofs.look.named_page.Reads as named-page

abbrev pub Table : ℕ → List ℕ → Type 0
Table n xs = Bytes xs × (length xs ≡ n)

module _ (b : Bank) (d : Shown) (u u' : Report) (lent lent' hx hx' px px' : List ℕ) (p : shows u lent (tables_from b hx px) ≡ d) (q : shows u' lent' (tables_from b hx' px') ≡ d) where
  one : shows u lent (tables_from b hx px) ≡ shows u' lent' (tables_from b hx' px')
  one = p ∙ sym q

  one_report : u ≡ u'
  one_report = ap (λ (k : Shown). k.report) one

  one_page : lent ≡ lent'
  one_page = ap (λ (k : Shown). k.page) one

  one_header_table : Table headers_length hx → Table headers_length hx' → hx ≡ hx'
  one_header_table t t' = hs_same hx hx' t.0 t'.0 t.1 t'.1 (ap (λ (k : Shown). k.tables.hs) one)

  one_page_table : Table (pages_length b) px → Table (pages_length b) px' → px ≡ px'
  one_page_table t t' = ps_same b px px' t.0 t'.0 t.1 t'.1 (ap (λ (k : Shown). k.tables.ps) one)

pub create_one : (κs : Lfts 4) (a r r' s s' : _) → create.Learnt κs a r s → create.Learnt κs a r' s' → Table headers_length s.0.now → Table headers_length s'.0.now
    → Table (pages_length a.1.1.0) s.1.0.now → Table (pages_length a.1.1.0) s'.1.0.now → (r ≡ r') × (s.0.now ≡ s'.0.now) × (s.1.0.now ≡ s'.1.0.now)
create_one κs a r r' s s' p q t t' v v' = (id_one r r' (one_report a.1.1.0 _ _ _ _ _ _ _ _ _ p q), one_header_table a.1.1.0 _ _ _ _ _ _ _ _ _ p q t t', one_page_table a.1.1.0 _ _ _ _ _ _ _ _ _ p q v v')

pub write_one : (κs : Lfts 4) (a r r' s s' : _) → write.Learnt κs a r s → write.Learnt κs a r' s' → Table headers_length s.0.now → Table headers_length s'.0.now
    → Table (pages_length a.1.1.0) s.1.0.now → Table (pages_length a.1.1.0) s'.1.0.now → (r ≡ r') × (s.0.now ≡ s'.0.now) × (s.1.0.now ≡ s'.1.0.now)
write_one κs a r r' s s' p q t t' v v' = (id_one r r' (one_report a.1.1.0 _ _ _ _ _ _ _ _ _ p q), one_header_table a.1.1.0 _ _ _ _ _ _ _ _ _ p q t t', one_page_table a.1.1.0 _ _ _ _ _ _ _ _ _ p q v v')

pub read_one : (κs : Lfts 4) (a r r' s s' : _) → read.Learnt κs a r s → read.Learnt κs a r' s' → Table headers_length s.0.now → Table headers_length s'.0.now
    → (r ≡ r') × (s.0.now ≡ s'.0.now) × (s.1.1.1.1.1.1.1.0.now ≡ s'.1.1.1.1.1.1.1.0.now)
read_one κs a r r' s s' p q t t' = (nothing_one r r' (one_report a.1.1.0 _ _ _ _ _ _ _ _ _ p q), one_header_table a.1.1.0 _ _ _ _ _ _ _ _ _ p q t t', one_page a.1.1.0 _ _ _ _ _ _ _ _ _ p q)

pub info_one : (κs : Lfts 3) (a r r' s s' : _) → info.Learnt κs a r s → info.Learnt κs a r' s' → Table headers_length s.0.now → Table headers_length s'.0.now
    → (r ≡ r') × (s.0.now ≡ s'.0.now)
info_one κs a r r' s s' p q t t' = (facts_one r r' (one_report a.1.1.0 _ _ _ _ _ _ _ _ _ p q), one_header_table a.1.1.0 _ _ _ _ _ _ _ _ _ p q t t')

pub destroy_one : (κs : Lfts 3) (a r r' s s' : _) → destroy.Learnt κs a r s → destroy.Learnt κs a r' s' → Table headers_length s.0.now → Table headers_length s'.0.now
    → Table (pages_length a.1.1.0) s.1.0.now → Table (pages_length a.1.1.0) s'.1.0.now → (r ≡ r') × (s.0.now ≡ s'.0.now) × (s.1.0.now ≡ s'.1.0.now)
destroy_one κs a r r' s s' p q t t' v v' = (nothing_one r r' (one_report a.1.1.0 _ _ _ _ _ _ _ _ _ p q), one_header_table a.1.1.0 _ _ _ _ _ _ _ _ _ p q t t', one_page_table a.1.1.0 _ _ _ _ _ _ _ _ _ p q v v')

pub set_expiry_one : (κs : Lfts 3) (a r r' s s' : _) → set-expiry.Learnt κs a r s → set-expiry.Learnt κs a r' s' → Table headers_length s.0.now → Table headers_length s'.0.now
    → Table (pages_length a.1.1.0) s.1.0.now → Table (pages_length a.1.1.0) s'.1.0.now → (r ≡ r') × (s.0.now ≡ s'.0.now) × (s.1.0.now ≡ s'.1.0.now)
set_expiry_one κs a r r' s s' p q t t' v v' = (id_one r r' (one_report a.1.1.0 _ _ _ _ _ _ _ _ _ p q), one_header_table a.1.1.0 _ _ _ _ _ _ _ _ _ p q t t', one_page_table a.1.1.0 _ _ _ _ _ _ _ _ _ p q v v')

pub scavenge_one : (κs : Lfts 3) (a r r' s s' : _) → scavenge.Learnt κs a r s → scavenge.Learnt κs a r' s' → Table headers_length s.0.now → Table headers_length s'.0.now
    → Table (pages_length a.1.1.0) s.1.0.now → Table (pages_length a.1.1.0) s'.1.0.now → (r ≡ r') × (s.0.now ≡ s'.0.now) × (s.1.0.now ≡ s'.1.0.now)
scavenge_one κs a r r' s s' p q t t' v v' = (counts_one r r' (one_report a.1.1.0 _ _ _ _ _ _ _ _ _ p q), one_header_table a.1.1.0 _ _ _ _ _ _ _ _ _ p q t t', one_page_table a.1.1.0 _ _ _ _ _ _ _ _ _ p q v v')

pub format_one : (κs : Lfts 2) (a r r' s s' : _) → format.Learnt κs a r s → format.Learnt κs a r' s' → (s.0.now ≡ s'.0.now) × (s.1.0.now ≡ s'.1.0.now)
format_one κs a r r' s s' p q = (p.0 ∙ sym q.0, p.1 ∙ sym q.1)

pub look_one : (κs : Lfts 2) (a r r' s s' : _) → look.Learnt κs a r s → look.Learnt κs a r' s' → r.now ≡ r'.now
look_one κs a r r' s s' p q = p ∙ sym q

pub named_page_one : (κs : Lfts 1) (a r r' s s' : _) → named-page.Learnt κs a r s → named-page.Learnt κs a r' s' → r ≡ r'
named_page_one κs a r r' s s' p q = p ∙ sym q
