-- The header table as the Header Store's functions meet it: how many slots there are, what a search finds in them, what a step writes, and the sweep of the slots.
-- Assumes nothing.
use Prim.Native.Nat.{ℕ, ◌+◌, ◌*◌, ◌^◌, ◌≤◌, ◌<◌}
use mathlib.Core.Path.{◌≡◌, refl, sym, ap, ap₂, ◌∙◌}
use mathlib.Core.Bool.{Bool, true, false}
use mathlib.Core.List.{List}
use native.Mathlib.Omega.{arith}
use borrow.Author.Tests.{lt-ltb, le-ltb}
use lib.Dec.{ltb}
use lib.ListN.{length, take, drop, replicate, length-map}
use Rattle.paper.specs.declared.FileId.{FileId}
use Rattle.paper.specs.declared.Header.{Header}
use Rattle.paper.specs.declared.Control.{Control}
use Rattle.paper.specs.declared.Issued.{Issued}
use Rattle.paper.specs.declared.Refusal.TheVariants.{NoIds}
use Rattle.std.specs.Prelude.{Option, Some}
use Rattle.std.specs.declared.ops.Range.{Range}
use Rattle.std.specs.Fn.{CalledAt}
use Rattle.std.specs.Iterator.{FindsItem}
use Rattle.std.proofs.iter.Yields.{nat_range_steps}
use denote.Param.Members.{Mut}
use denote.Ref.{Bor}
use Rattle.paper.specs.Ids.{no_more_ids}
use Rattle.paper.specs.Lists.{lowest}
use Rattle.paper.specs.Tables.{header_slots, header_at, header_expired, no_header, put_header, with_control, with_headers}
use Rattle.paper.specs.Stores.{gone, no, issued, named, replace_header, destroy_header, scavenge_headers}
use Rattle.paper.specs.Bytes.{record_size, headers_length, header_layout, header_values, control_bytes, control_from, spare_from, header_bytes, header_from, parts, hs_from}
use Rattle.bits.specs.Field.{pack, splice}
use Rattle.bits.specs.Field.Within.{one}
use Rattle.bits.proofs.Within.{within_test}
use Rattle.records.specs.Fits.{ControlFits, HeaderFits}
use Rattle.records.proofs.Records.{control_fits}
use Rattle.records.proofs.Parts.{length_parts}
use Rattle.records.proofs.Places.{control_place, control_put, header_put}
use Rattle.stores.proofs.Search.{found_lowest, lowest_within}
use Rattle.stores.proofs.Sweep.{Swept, starts, met_few, ends, passes, fails}

-- there are 64 slots, whatever the bytes
pub slots : (xs : List ℕ) → length (hs_from xs).headers ≡ header_slots
unfolding hs_from
slots xs =
    let ps = parts record_size header_slots (drop record_size xs) in
    length-map ps header_from ∙ length_parts record_size header_slots (drop record_size xs)

module _ (f : Header → Bool) (xs : List ℕ) where
  -- `find` over the slots' numbers, by a closure that tests the header of each
  pub found_header : {F : Type 0} {g : Mut F (Bor ℕ × Unit {0}) Bool} (s u : Range ℕ) (p : F) (r : Option ℕ) → FindsItem nat_range_steps g s p r u → s.start ≡ 1 → s.end ≡ header_slots + 1
      → ((n : ℕ) (b : Bool) (q : F) → CalledAt g p n b q → (q ≡ p) × (1 ≤ n → n ≤ header_slots → b ≡ f (header_at (hs_from xs) n))) → r ≡ lowest f (hs_from xs).headers
  found_header s u p r ran a b k =
      found_lowest f no_header (hs_from xs).headers s u p r ran a (omega (arith, slots xs)) (rw (slots xs) k)

  -- what a search finds is a slot
  pub found_slot : (n : ℕ) → lowest f (hs_from xs).headers ≡ Some n → (1 ≤ n) × (n ≤ header_slots)
  found_slot n e = let i = lowest_within f n (hs_from xs).headers e in (i.0, omega (arith, slots xs))

pub zeros_fit : HeaderFits no_header
zeros_fit = within_test header_layout (header_values no_header) tt

pub no_header_bytes : header_bytes no_header ≡ replicate record_size 0
unfolding header_bytes pack
no_header_bytes = refl

-- zeros put over slot n
zeros_put : (xs ys : List ℕ) (n : ℕ) → length xs ≡ headers_length → 1 ≤ n → n ≤ header_slots → ys ≡ splice (n * 36) (replicate 36 0) xs
    → hs_from ys ≡ put_header n no_header (hs_from xs)
zeros_put xs ys n l lo hi e = ap hs_from (e ∙ ap (λ (r : List ℕ). splice (n * 36) r xs) (sym no_header_bytes)) ∙ header_put xs l n lo hi no_header zeros_fit

pub destroyed : (xs ys : List ℕ) (n : ℕ) → length xs ≡ headers_length → 1 ≤ n → n ≤ header_slots → ys ≡ splice (n * 36) (replicate 36 0) xs
    → destroy_header n (hs_from xs) ≡ gone n (hs_from ys)
unfolding destroy_header
destroyed xs ys n l lo hi e = ap (gone n) (sym (zeros_put xs ys n l lo hi e))

-- the sweep of the headers that xs holds has come to number n: the table is ys, all else in it as it was, and m were expired
pub record SweptHeaders (time : ℕ) (xs : List ℕ) (n : ℕ) (ys : List ℕ) (m : ℕ) : Type 0 where
  pub rest : hs_from ys ≡ with_headers (hs_from ys).headers (hs_from xs)
  pub swept : Swept (header_expired time) no_header (hs_from xs).headers n (hs_from ys).headers m

module _ (time : ℕ) (xs : List ℕ) where
  pub sweep_starts : SweptHeaders time xs 1 xs 0
  sweep_starts = record { rest = refl; swept = starts (header_expired time) no_header refl (hs_from xs).headers }

  module _ {n : ℕ} {ys : List ℕ} {m : ℕ} (i : SweptHeaders time xs n ys m) where
    pub few_swept : m ≤ header_slots
    few_swept = omega (arith, met_few i.swept, slots xs)

    pub swept_headers : header_slots < n → gone m (hs_from ys) ≡ scavenge_headers time (hs_from xs)
    unfolding scavenge_headers
    swept_headers h =
        let e = ends i.swept (omega (arith, slots ys)) in
        ap₂ gone e.0 (i.rest ∙ ap (λ (l : List Header). with_headers l (hs_from xs)) e.1)

    module _ (l : length ys ≡ headers_length) (lo : 1 ≤ n) (hi : n ≤ header_slots) where
      pub sweep_passes : {zs : List ℕ} → zs ≡ splice (n * 36) (replicate 36 0) ys → header_expired time (header_at (hs_from ys) n) ≡ true → SweptHeaders time xs (n + 1) zs (m + 1)
      sweep_passes {zs} ez e =
          let put : hs_from zs ≡ put_header n no_header (hs_from ys) = zeros_put ys zs n l lo hi ez in
          record {
            rest = rw put (ap (put_header n no_header) i.rest);
            swept = rw put (passes (header_expired time) no_header refl i.swept e);
          }

    pub sweep_fails : header_expired time (header_at (hs_from ys) n) ≡ false → SweptHeaders time xs (n + 1) ys m
    sweep_fails e = record { rest = i.rest; swept = fails i.swept e }

pub named_fits : (id : FileId) (h : Header) → HeaderFits h → id.0 < no_more_ids → HeaderFits (named id h)
named_fits id h (one u (one i r)) l = let z : id.0 < 2 ^ 31 = omega arith in one u (one z r)

pub issued_fits : (c : Control) (spare : ℕ) → ControlFits c spare → c.next < no_more_ids → ControlFits (issued c).control spare
issued_fits c spare (one n r) l = let z : c.next + 1 < 2 ^ 32 = omega arith in one z r

pub issued_below : (c : Control) (i : Issued) → i ≡ issued c → c.next < no_more_ids → i.id.0 < no_more_ids
issued_below c i e l = let z : i.id.0 ≡ c.next = rw e in omega arith

hs_control : (xs : List ℕ) → ControlFits (hs_from xs).control (hs_from xs).spare
unfolding hs_from
hs_control xs = control_fits (take record_size xs)

-- the control record that a store step read, and what it issued of it
module _ (xs : List ℕ) (n : ℕ) (h : Header) (c : Control) (e : c ≡ control_from (take 36 xs)) where
  same : c ≡ (hs_from xs).control
  same = e ∙ control_place xs

  pub no_ids : no_more_ids ≤ c.next → replace_header n h (hs_from xs) ≡ no NoIds
  unfolding replace_header
  no_ids l =
      let next : ltb (hs_from xs).control.next no_more_ids ≡ false = rw (← same) (le-ltb c.next no_more_ids l) in
      rw next

  -- the issued control written first, the header under its new id into slot n after it
  module _ (i : Issued) (ei : i ≡ issued c) (l : length xs ≡ headers_length) (lo : 1 ≤ n) (hi : n ≤ header_slots) (f : HeaderFits h) (room : c.next < no_more_ids) where
    control_then : (ys : List ℕ) → ys ≡ splice 0 (control_bytes i.control (spare_from (take 36 xs))) xs → hs_from ys ≡ with_control i.control (hs_from xs)
    control_then ys ey =
        let fits : ControlFits i.control (hs_from xs).spare = rw ei (issued_fits c (hs_from xs).spare (rw same (hs_control xs)) room) in
        ap hs_from ey ∙ control_put xs i.control fits

    stored : (ys zs : List ℕ) → ys ≡ splice 0 (control_bytes i.control (spare_from (take 36 xs))) xs → length ys ≡ length xs
        → zs ≡ splice (n * 36) (header_bytes (named i.id h)) ys → hs_from zs ≡ put_header n (named i.id h) (with_control i.control (hs_from xs))
    stored ys zs ey ly ez =
        ap hs_from ez ∙ header_put ys (ly ∙ l) n lo hi (named i.id h) (named_fits i.id h f (issued_below c i ei room)) ∙ ap (put_header n (named i.id h)) (control_then ys ey)

    pub replaced : (ys zs : List ℕ) → ys ≡ splice 0 (control_bytes i.control (spare_from (take 36 xs))) xs → length ys ≡ length xs
        → zs ≡ splice (n * 36) (header_bytes (named i.id h)) ys → replace_header n h (hs_from xs) ≡ gone i.id.0 (hs_from zs)
    unfolding replace_header
    replaced ys zs ey ly ez =
        let next : ltb (hs_from xs).control.next no_more_ids ≡ true = rw (← same) (lt-ltb c.next no_more_ids room) in
        let is : issued (hs_from xs).control ≡ i = sym (ei ∙ ap issued same) in
        rw next (ap (λ (q : Issued). gone q.id.0 (put_header n (named q.id h) (with_control q.control (hs_from xs)))) is ∙ ap (gone i.id.0) (sym (stored ys zs ey ly ez)))
