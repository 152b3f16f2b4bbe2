-- One header told over the map of slots seen, by what its bytes say, and the headers walked in order with their ids gathered.
-- Assumes nothing.
use Prim.Native.Nat.{ℕ, ◌+◌, ◌-◌, ◌*◌, ◌/◌, ◌≤◌, ◌<◌}
use mathlib.Core.Path.{◌≡◌, refl, sym, ap, ap₂, ◌∙◌, subst}
use mathlib.Core.Bool.{Bool, true, false, ◌&&◌, cond, and-false}
use mathlib.Core.List.{List, [], ◌∷◌, ◌++◌, append_assoc, append-nil}
use native.Mathlib.Numerals.{add-one}
use native.Mathlib.Omega.{arith}
use borrow.Author.Tests.{lt-ltb, le-ltb, eq-eqb, ne_eqb}
use lib.Dec.{leb, ltb}
use lib.ListN.{length, take, drop, set}
use lib.Seq.{take-suc-set}
use Rattle.bits.specs.Field.{field, Bytes}
use Rattle.bits.proofs.Fields.{field_lt}
use Rattle.paper.specs.declared.Bank.{Bank}
use Rattle.paper.specs.declared.Control.{Control}
use Rattle.paper.specs.declared.Header.{Header}
use Rattle.paper.specs.Lists.{all, is_zero, numbered}
use Rattle.paper.specs.Tables.{PS, no_header, header_slots, header_at}
use Rattle.paper.specs.Sound.{good_header, zero_header}
use Rattle.paper.specs.Bytes.{is_one, ids_of, headers_length, header_from, hs_from}
use Rattle.records.proofs.Read.{header_fields, word_used}
use Rattle.records.proofs.Places.{header_place}
use Rattle.records.proofs.Zeros.{zero_header_lem}
use Rattle.std.specs.Prelude.{Result, Ok, Err, Option, Some, None}
use Rattle.sound.specs.declared.Broken.{Broken}
use Rattle.sound.specs.Seen.{id_within, ids_in_use, marked, held_to, once, passes, seen_after, all_pass, told}
use Rattle.paper.proofs.Tests.{both}
use Rattle.sound.proofs.Walks.{from_number, past_all}
use Rattle.sound.proofs.Records.{part, part_is, part_bytes, part_length}

pub good_within : (b : Bank) (c : Control) (h : Header) → good_header b c h ≡ true → all (id_within b.slots) h.pages ≡ true
unfolding good_header
good_within b c h e =
    (both
    (leb 1 h.id.0 && ltb h.id.0 c.next && leb h.created h.updated && leb h.updated c.clock && leb h.updated h.expires)
    (all (id_within b.slots) h.pages) e).1

own_header : (xs : List ℕ) (n : ℕ) → 1 ≤ n → n ≤ header_slots → header_from (part (n * 36) 36 xs) ≡ header_at (hs_from xs) n
own_header xs n lo hi = ap header_from (part_is (n * 36) 36 xs) ∙ sym (header_place xs n lo hi)

-- in use by the first word of header slot n's part of the table
module _ (xs : List ℕ) (long : length xs ≡ headers_length) (n : ℕ) (lo : 1 ≤ n) (hi : n ≤ header_slots) (w : ℕ) (e : w ≡ field 0 32 (part (n * 36) 36 xs)) where
  header_used : is_one (w / 2147483648) ≡ (header_at (hs_from xs) n).used
  header_used =
      let l : length (part (n * 36) 36 xs) ≡ 36 = part_length (n * 36) 36 xs (omega arith) in
      word_used w (part (n * 36) 36 xs) (omega arith) e ∙ ap (λ (h : Header). h.used) (header_fields (part (n * 36) 36 xs) l ∙ own_header xs n lo hi)

  pub word_in_use : 2147483648 ≤ w → (header_at (hs_from xs) n).used ≡ true
  word_in_use h = sym header_used ∙ eq-eqb (w / 2147483648) 1 (omega (arith, field_lt 0 32 (part (n * 36) 36 xs)))

  pub word_unused : w < 2147483648 → (header_at (hs_from xs) n).used ≡ false
  word_unused h = sym header_used ∙ ne_eqb (w / 2147483648) 1 (λ z. absurd (omega arith))

-- what is told of a header, by whether it is in use and passes
told_by : (h : Header) (u t : Bool) → h.used ≡ u → cond t (Ok (cond u (Some h.id.0) None)) (Err (record {})) ≡ told t h
unfolding told
told_by h u true e = ap (λ (s : Bool). Ok (cond s (Some h.id.0) None)) (sym e)
told_by h u false e = refl

module _ (b : Bank) (c : Control) (ps : PS) (seen : List Bool) where
  -- r is what is to be told of header h, and after is the map then
  abbrev pub Told : Header → Result (Option ℕ) Broken → List Bool → Type 0
  Told h r after = (r ≡ told (passes b c ps seen h) h) × (after ≡ seen_after b c seen h)

  pub told_same : {h k : Header} {r : Result (Option ℕ) Broken} {after : List Bool} → h ≡ k → Told h r after → Told k r after
  told_same {r = r} {after = after} e t = subst (λ (x : Header). Told x r after) e t

  module _ (h : Header) where
    -- the map after a header, by the three tests
    after_by : (u l g : Bool) → h.used ≡ u → ltb c.clock h.expires ≡ l → good_header b c h ≡ g
        → cond (u && l && g) (marked seen (ids_of h.pages)) seen ≡ seen_after b c seen h
    unfolding seen_after
    after_by u l g eu el eg = sym (λ i. cond (eu i && el i && eg i) (marked seen (ids_of h.pages)) seen)

    passes_by : (u l g t : Bool) → h.used ≡ u → ltb c.clock h.expires ≡ l → good_header b c h ≡ g → once (held_to b ps h.expires) seen h.pages ≡ t
        → cond u (g && cond l t true) (zero_header h) ≡ passes b c ps seen h
    unfolding passes
    passes_by u l g t eu el eg et = sym (λ i. cond (eu i) (eg i && cond (el i) (et i) true) (zero_header h))

    module _ (u : h.used ≡ true) where
      pub not_good : good_header b c h ≡ false → Told h (Err (record {})) seen
      not_good g = (
        told_by h true false u ∙ ap (λ (t : Bool). told t h) (passes_by true _ false _ u refl g refl),
        ap (λ (t : Bool). cond t (marked seen (ids_of h.pages)) seen) (sym (and-false (ltb c.clock h.expires))) ∙ after_by true _ false u refl g,
      )

      module _ (g : good_header b c h ≡ true) where
        pub good_expired : h.expires ≤ c.clock → Told h (Ok (Some h.id.0)) seen
        good_expired l =
            let e : ltb c.clock h.expires ≡ false = le-ltb c.clock h.expires l in
            (told_by h true true u ∙ ap (λ (t : Bool). told t h) (passes_by true false true _ u e g refl), after_by true false true u e g)

        pub good_live : c.clock < h.expires → (t : Bool) → t ≡ once (held_to b ps h.expires) seen h.pages
            → Told h (cond t (Ok (Some h.id.0)) (Err (record {}))) (marked seen (ids_of h.pages))
        good_live l t o =
            let e : ltb c.clock h.expires ≡ true = lt-ltb c.clock h.expires l in
            (told_by h true t u ∙ ap (λ (s : Bool). told s h) (passes_by true true true t u e g (sym o)), after_by true true true u e g)

  -- header slot n by its part of the table
  module _ (xs : List ℕ) (bytes : Bytes xs) (long : length xs ≡ headers_length) (n : ℕ) (lo : 1 ≤ n) (hi : n ≤ header_slots) (u : (header_at (hs_from xs) n).used ≡ false) where
    abbrev at_n : Header
    at_n = header_at (hs_from xs) n

    pub not_in_use : (t : Bool) → t ≡ all is_zero (part (n * 36) 36 xs) → Told at_n (cond t (Ok None) (Err (record {}))) seen
    not_in_use t z =
        let zeros : zero_header at_n ≡ all is_zero (part (n * 36) 36 xs) =
        ap zero_header (sym (own_header xs n lo hi)) ∙ zero_header_lem (part (n * 36) 36 xs) (part_bytes (n * 36) 36 xs bytes) (part_length (n * 36) 36 xs (omega arith)) in
        (told_by at_n false t u ∙ ap (λ (s : Bool). told s at_n) (z ∙ sym zeros ∙ passes_by at_n false _ _ _ u refl refl refl), after_by at_n false _ _ u refl refl)

-- what was told says of the header
module _ (h : Header) where
  broken_fails : (t : Bool) (e : Broken) → told t h ≡ Err e → t ≡ false
  unfolding told
  broken_fails false e p = refl
  broken_fails true e p = cc

  sound_passes : (t : Bool) (o : Option ℕ) → told t h ≡ Ok o → (t ≡ true) × (cond h.used (Some h.id.0) None ≡ o)
  unfolding told
  sound_passes false o p = (cc, cc)
  sound_passes true o p = (refl, cc)

  none_unused : (u : Bool) → cond u (Some h.id.0) None ≡ None → u ≡ false
  none_unused true e = cc
  none_unused false e = refl

  some_used : (u : Bool) (id : ℕ) → cond u (Some h.id.0) None ≡ Some id → (u ≡ true) × (h.id.0 ≡ id)
  some_used true id e = (refl, cc)
  some_used false id e = (cc, cc)

-- the headers have been walked up to number n: the map is seen, and the first count of ids are the ids of those in use
pub record Gathered (b : Bank) (c : Control) (ps : PS) (seen₀ : List Bool) (hs : List Header) (n : ℕ) (seen : List Bool) (ids : List ℕ) (count : ℕ) : Type 0 where
  pub few : count ≤ n - 1
  pub pass : all_pass b c ps seen (drop (n - 1) hs) ≡ all_pass b c ps seen₀ hs
  pub names : take count ids ++ ids_in_use (drop (n - 1) hs) ≡ ids_in_use hs

pub gather_starts : (b : Bank) (c : Control) (ps : PS) (seen : List Bool) (hs : List Header) (ids : List ℕ) → Gathered b c ps seen hs 1 seen ids 0
gather_starts b c ps seen hs ids = record { few = omega arith; pass = refl; names = refl }

module _ {b : Bank} {c : Control} {ps : PS} {seen₀ : List Bool} {hs : List Header} {n : ℕ} {seen : List Bool} {ids : List ℕ} {count : ℕ} (g : Gathered b c ps seen₀ hs n seen ids count) where
  pub gather_ends : length hs < n → (all_pass b c ps seen₀ hs ≡ true) × (take count ids ≡ ids_in_use hs)
  unfolding all_pass
  gather_ends h =
      let none : drop (n - 1) hs ≡ [] = past_all hs n h in
      (sym g.pass ∙ ap (all_pass b c ps seen) none, sym (append-nil (take count ids)) ∙ ap (λ (l : List Header). take count ids ++ ids_in_use l) (sym none) ∙ g.names)

  module _ (lo : 1 ≤ n) (hi : n ≤ length hs) where
    abbrev here : Header
    here = numbered no_header hs n

    abbrev rest : List Header
    rest = drop (n + 1 - 1) hs

    next : drop (n - 1) hs ≡ here ∷ rest
    next = from_number no_header hs n lo hi

    turn : passes b c ps seen here && all_pass b c ps (seen_after b c seen here) rest ≡ all_pass b c ps seen₀ hs
    unfolding all_pass
    turn = ap (all_pass b c ps seen) (sym next) ∙ g.pass

    passed : (seen' : List Bool) → passes b c ps seen here ≡ true → seen' ≡ seen_after b c seen here → all_pass b c ps seen' rest ≡ all_pass b c ps seen₀ hs
    passed seen' p m = ap₂ (λ (t : Bool) (l : List Bool). t && all_pass b c ps l rest) (sym p) m ∙ turn

    names_by : (u : Bool) → here.used ≡ u → take count ids ++ cond u (here.id.0 ∷ ids_in_use rest) (ids_in_use rest) ≡ ids_in_use hs
    names_by u e = sym (used_or_not u e) ∙ g.names
      where
        used_or_not : (u : Bool) → here.used ≡ u → take count ids ++ ids_in_use (drop (n - 1) hs) ≡ take count ids ++ cond u (here.id.0 ∷ ids_in_use rest) (ids_in_use rest)
        used_or_not true e = rw (next, e)
        used_or_not false e = rw (next, e)

    pub gather_broken : (e : Broken) → told (passes b c ps seen here) here ≡ Err e → all_pass b c ps seen₀ hs ≡ false
    gather_broken e t = sym turn ∙ ap (λ (p : Bool). p && all_pass b c ps (seen_after b c seen here) rest) (broken_fails here _ e t)

    module _ (seen' : List Bool) (o : Option ℕ) (t : told (passes b c ps seen here) here ≡ Ok o) (m : seen' ≡ seen_after b c seen here) where
      pub gather_unused : o ≡ None → Gathered b c ps seen₀ hs (n + 1) seen' ids count
      gather_unused e =
          let p = sound_passes here _ o t in
          record { few = omega (arith, g.few); pass = passed seen' p.0 m; names = names_by false (none_unused here _ (p.1 ∙ e)) }

      pub gather_used : (id : ℕ) → o ≡ Some id → count < length ids → Gathered b c ps seen₀ hs (n + 1) seen' (set ids count id) (count + 1)
      gather_used id e room =
          let p = sound_passes here _ o t in
          let u = some_used here _ id (p.1 ∙ e) in
          record {
            few = omega (arith, g.few);
            pass = passed seen' p.0 m;
            names = rw (add-one, take-suc-set ids count id) (append_assoc (take count ids) (id ∷ []) (ids_in_use rest))
                ∙ ap (λ (x : ℕ). take count ids ++ x ∷ ids_in_use rest) (sym u.1) ∙ names_by true u.0;
          }
