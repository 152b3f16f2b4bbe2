-- The headers told one after the other over an unmarked map are S2 without the ids, S4 and S5; and the rules together.
-- Assumes nothing.
use Prim.Native.Nat.{ℕ, ◌≤◌}
use mathlib.Core.Path.{◌≡◌, refl, sym, ap, ap₂, ◌∙◌}
use mathlib.Core.Bool.{Bool, true, false, ◌&&◌, cond, and-false}
use mathlib.Core.List.{List, [], ◌∷◌}
use lib.Dec.{ltb}
use lib.ListN.{length}
use Rattle.paper.specs.declared.Bank.{Bank}
use Rattle.paper.specs.declared.Control.{Control}
use Rattle.paper.specs.declared.Header.{Header}
use Rattle.paper.specs.Lists.{all, those, distinct}
use Rattle.paper.specs.Tables.{PS, Tables, live}
use Rattle.paper.specs.Bytes.{ids_of}
use Rattle.paper.specs.Sound.{s1, s2, s3, s4, s5, good_header, zero_header, header_sound, held, page_ids, sound}
use Rattle.records.proofs.Zeros.{all_append}
use Rattle.sound.specs.Seen.{Unmarked, ids_in_use, marked, held_to, once, passes, seen_after, all_pass}
use Rattle.paper.proofs.Tests.{both}
use Rattle.sound.proofs.Headers.{good_within}
use Rattle.sound.proofs.Unseen.{unseen, nonzero, unseen_append, unseen_nonzero, marked_nonzero, once_apart, in_map, unseen_distinct, ids_in_map}

-- S4 for one header
held_all : Bank → Control → PS → Header → Bool
held_all b c ps h = cond (live c.clock h) (all (held b ps h) h.pages) true

unused_joins : (z a b d : Bool) → z && ((a && b) && d) ≡ ((z && a) && (true && b)) && d
unused_joins true a b d = refl
unused_joins false a b d = refl

live_joins : (p q a b d : Bool) → (p && q) && ((a && b) && d) ≡ (a && (p && b)) && (q && d)
live_joins true true a b d = refl
live_joins true false true true d = refl
live_joins true false true false d = refl
live_joins true false false b d = refl
live_joins false q true b d = refl
live_joins false q false b d = refl

module _ (b : Bank) (c : Control) (ps : PS) where
  abbrev live_pages : List Header → List ℕ
  live_pages hs = page_ids (those (live c.clock) hs)

  abbrev apart : List Bool → List Header → Bool
  apart seen hs = (all (header_sound b c) hs && all (held_all b c ps) hs) && unseen seen (live_pages hs)

  unseen_pages : (seen : List Bool) (h : Header) (hs : List Header) → unseen seen (page_ids (h ∷ hs)) ≡ unseen seen (ids_of h.pages) && unseen (marked seen (ids_of h.pages)) (page_ids hs)
  unfolding page_ids
  unseen_pages seen h hs =
      let ids = ids_of h.pages in
      unseen_append seen (those nonzero ids) (page_ids hs)
      ∙ ap₂ (λ (t : Bool) (l : List Bool). t && unseen l (page_ids hs)) (unseen_nonzero seen ids) (marked_nonzero seen ids)

  module _ (h : Header) (hs : List Header) (seen : List Bool) (rest : (seen' : List Bool) → all_pass b c ps seen' hs ≡ apart seen' hs) where
    abbrev a : Bool
    a = all (header_sound b c) hs

    abbrev d : Bool
    d = all (held_all b c ps) hs

    abbrev p : Bool
    p = all (held b ps h) h.pages

    abbrev ids : List ℕ
    ids = ids_of h.pages

    abbrev lives : List Header
    lives = those (live c.clock) hs

    -- a header in use or not, live or not, good or not
    one_apart : (u l g : Bool)
        → cond u (g && cond l (once (held b ps h) seen h.pages) true) (zero_header h) && all_pass b c ps (cond ((u && l) && g) (marked seen ids) seen) hs
        ≡ ((cond u g (zero_header h) && a) && (cond (u && l) p true && d)) && unseen seen (page_ids (cond (u && l) (h ∷ lives) lives))
    one_apart false l g = ap (λ (t : Bool). zero_header h && t) (rest seen) ∙ unused_joins (zero_header h) a d (unseen seen (live_pages hs))
    one_apart true l false = refl
    one_apart true false true = rest seen
    one_apart true true true =
        ap₂ (λ (s t : Bool). s && t) (once_apart (held b ps h) seen h.pages) (rest (marked seen ids))
        ∙ live_joins p (unseen seen ids) a d (unseen (marked seen ids) (live_pages hs))
        ∙ ap (λ (t : Bool). (a && (p && d)) && t) (sym (unseen_pages seen h lives))

  all_apart : (hs : List Header) (seen : List Bool) → all_pass b c ps seen hs ≡ apart seen hs
  unfolding all_pass passes seen_after header_sound held_all held_to held unseen page_ids
  all_apart [] seen = refl
  all_apart (h ∷ hs) seen = one_apart h hs seen (all_apart hs) h.used (ltb c.clock h.expires) (good_header b c h)

module _ (b : Bank) (c : Control) (n : ℕ) (wide : b.slots ≤ n) where
  pages_in_map : (hs : List Header) → all (header_sound b c) hs ≡ true → all (in_map n) (page_ids (those (live c.clock) hs)) ≡ true
  unfolding header_sound page_ids
  pages_in_map [] e = refl
  pages_in_map (h ∷ hs) e = let w = both (header_sound b c h) (all (header_sound b c) hs) e in go h.used (ltb c.clock h.expires) w.0 (pages_in_map hs w.1)
    where
      go : (u l : Bool) → cond u (good_header b c h) (zero_header h) ≡ true → all (in_map n) (page_ids (those (live c.clock) hs)) ≡ true
          → all (in_map n) (page_ids (cond (u && l) (h ∷ those (live c.clock) hs) (those (live c.clock) hs))) ≡ true
      go false l s r = r
      go true false s r = r
      go true true s r =
          all_append (in_map n) (those nonzero (ids_of h.pages)) (page_ids (those (live c.clock) hs))
          ∙ ap₂ (λ (s t : Bool). s && t) (ids_in_map b.slots n wide h.pages (good_within b c h s)) r

rules_join : (a b e d : Bool) → ((a && b) && e) && d ≡ (((true && (a && d)) && true) && b) && e
rules_join true true true true = refl
rules_join true true true false = refl
rules_join true true false true = refl
rules_join true true false false = refl
rules_join true false e true = refl
rules_join true false e false = refl
rules_join false b e d = refl

module _ (b : Bank) (t : Tables) where
  pub control_breaks : s1 t.hs ≡ false → false ≡ sound b t
  unfolding sound
  control_breaks e = sym (ap (λ (s : Bool). s && s2 b t.hs && s3 t.ps && s4 b t && s5 t.hs) e)

  pub slot_breaks : s3 t.ps ≡ false → false ≡ sound b t
  unfolding sound
  slot_breaks e =
      sym
      (ap (λ (s : Bool). s1 t.hs && s2 b t.hs && s && s4 b t && s5 t.hs) e
      ∙ ap (λ (s : Bool). s && s4 b t && s5 t.hs) (and-false (s1 t.hs && s2 b t.hs)))

  module _ (seen : List Bool) (m : Unmarked b.slots seen) where
    abbrev c : Control
    c = t.hs.control

    abbrev hs : List Header
    hs = t.hs.headers

    headers_apart : all_pass b c t.ps seen hs ≡ (all (header_sound b c) hs && s4 b t) && s5 t.hs
    unfolding s4 s5 held_all
    headers_apart = all_apart b c t.ps hs seen ∙ go (all (header_sound b c) hs) refl
      where
        go : (s : Bool) → all (header_sound b c) hs ≡ s
            → (s && all (held_all b c t.ps) hs) && unseen seen (live_pages b c t.ps hs) ≡ (s && all (held_all b c t.ps) hs) && distinct (live_pages b c t.ps hs)
        go true e =
            ap (λ (s : Bool). all (held_all b c t.ps) hs && s)
            (unseen_distinct b.slots seen (live_pages b c t.ps hs) m (pages_in_map b c (length seen) m.wide hs e))
        go false e = refl

    pub all_rules : s1 t.hs ≡ true → s3 t.ps ≡ true → all_pass b c t.ps seen hs && distinct (ids_in_use hs) ≡ sound b t
    unfolding sound s2
    all_rules e1 e3 =
        ap (λ (s : Bool). s && distinct (ids_in_use hs)) headers_apart
        ∙ rules_join (all (header_sound b c) hs) (s4 b t) (s5 t.hs) (distinct (ids_in_use hs))
        ∙ ap₂ (λ (p q : Bool). p && (all (header_sound b c) hs && distinct (ids_in_use hs)) && q && s4 b t && s5 t.hs) (sym e1) (sym e3)
