-- The time taken: sound tables stay sound at a later clock, and show what the plain machine keeps at that clock.
-- Assumes nothing.
use Prim.Native.Nat.{ℕ, ◌≤◌}
use mathlib.Core.Path.{◌≡◌, refl}
use mathlib.Core.Bool.{Bool, true, false}
use native.Mathlib.Omega.{arith}
use borrow.Author.Tests.{ltb-true, lt-ltb}
use lib.Dec.{ltb}
use Rattle.paper.specs.declared.Bank.{Bank}
use Rattle.paper.specs.declared.FileId.{FileId}
use Rattle.paper.specs.declared.Header.{Header}
use Rattle.paper.specs.Tables.{Tables, clock_of, header_at, with_clock}
use Rattle.paper.specs.Plain.{kept, passed}
use Rattle.paper.specs.View.{view}
use Rattle.plain.proofs.Facts.{Live, InUse, Facts}
use Rattle.plain.proofs.Shown.{Hit, Look, look, files_of, files_at, files_none, same_view}

sooner : {c now : ℕ} {h : Header} → c ≤ now → Live now h → Live c h
sooner le l = record { used = l.used; until = omega arith }

module _ (b : Bank) (now : ℕ) (t : Tables) (f : Facts b t) (le : clock_of t ≤ now) where
  abbrev t' : Tables
  t' = with_clock now t

  pub time_facts : Facts b (with_clock now t)
  time_facts = record {
    count = f.count;
    next_low = f.next_low;
    next_high = f.next_high;
    spare = f.spare;
    header = λ n. record { blank = (f.header n).blank; full = λ u. older ((f.header n).full u) };
    slot = f.slot;
    ids = f.ids;
    backed = λ n l. f.backed n (sooner le l);
    once = λ i j l k. f.once i j (sooner le l) (sooner le k);
  }
    where
      older : {h : Header} → InUse b t.hs.control h → InUse b (with_clock now t).hs.control h
      older u = record {
        id_low = u.id_low;
        id_high = u.id_high;
        made = u.made;
        past = omega (arith, u.past);
        ends = u.ends;
        sixteen = u.sixteen;
        small = u.small;
      }

  pub time_view : view b (with_clock now t) ≡ passed now (view b t)
  unfolding passed view
  time_view = same_view b t' (λ x. kept now (files_of b t x)) (λ x. go x (look t' x) (look t x))
    where
      gone : (x : FileId) (n : ℕ) → Hit (clock_of t) x (header_at t.hs n) → (Hit now x (header_at t.hs n) → ⊥) → (u : Bool) → ltb now (header_at t.hs n).expires ≡ u
          → ltb now (header_at t.hs n).expires ≡ false
      gone x n q no_hit true e = absurd (no_hit (record { live = record { used = q.live.used; until = ltb-true _ _ e }; same = q.same }))
      gone x n q no_hit false e = e

      go : (x : FileId) → Look t' x → Look t x → files_of b t' x ≡ kept now (files_of b t x)
      go x (Look.at n e q) r =
          rw (files_at b t' x n time_facts q, files_at b t x n f (record { live = sooner le q.live; same = q.same }), lt-ltb _ _ q.live.until)
      go x (Look.nowhere e h) (Look.at n g q) =
          rw (files_none b t' x h, files_at b t x n f q, gone x n q (h n) (ltb now (header_at t.hs n).expires) refl)
      go x (Look.nowhere e h) (Look.nowhere g k) = rw (files_none b t' x h, files_none b t x k)
