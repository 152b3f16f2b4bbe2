-- The clock written into the control record is the header store with that clock.
-- Assumes nothing.
use Prim.Native.Nat.{ℕ, ◌^◌, ◌<◌}
use mathlib.Core.Path.{◌≡◌, ap, ◌∙◌}
use mathlib.Core.List.{List}
use lib.ListN.{take}
use Rattle.bits.specs.Field.{splice}
use Rattle.bits.specs.Field.Within.{one}
use Rattle.paper.specs.declared.Control.{Control}
use Rattle.paper.specs.Bytes.{control_bytes, control_from, spare_from, hs_from}
use Rattle.records.specs.Fits.{ControlFits}
use Rattle.records.proofs.Records.{control_fits}
use Rattle.records.proofs.Places.{control_put}
use Rattle.rows.specs.Rows.{clocked}

pub clock_fits : (c : Control) (spare time : ℕ) → time < 2 ^ 32 → ControlFits c spare → ControlFits (record { next = c.next; clock = time }) spare
clock_fits c spare time h (one n (one k s)) = one n (one h s)

pub clock_put : (xs ys : List ℕ) (c : Control) (time : ℕ) → time < 2 ^ 32 → c ≡ control_from (take 36 xs)
    → ys ≡ splice 0 (control_bytes (record { next = c.next; clock = time }) (spare_from (take 36 xs))) xs → hs_from ys ≡ clocked time (hs_from xs)
unfolding hs_from
clock_put xs ys c time h e w =
    ap hs_from (rw e at w)
    ∙ control_put xs (record { next = (control_from (take 36 xs)).next; clock = time }) (clock_fits (control_from (take 36 xs)) (spare_from (take 36 xs)) time h (control_fits (take 36 xs)))
