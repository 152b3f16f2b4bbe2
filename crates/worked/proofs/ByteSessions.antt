-- Sessions 1 to 12 through the bytes of both tables, decoded and encoded at each request, on a bank of 4 slots of 8 bytes.
use Prim.Native.Nat.{ℕ}
use mathlib.Core.Path.{◌≡◌, refl}
use mathlib.Core.List.{List, map, zip_with}
use Rattle.paper.specs.declared.Bank.{Bank}
use Rattle.paper.specs.Service.{Left}
use Rattle.paper.specs.Sessions.{Call, sessions, shown, run_bytes, formatted, shows}
use Rattle.paper.proofs.Computing.{computing}

abbrev tiny : Bank
tiny = record { slots = 4; size = 8 }

abbrev rows : List Call → List Left → List (List ℕ)
rows cs ls = zip_with (λ (c : Call) (l : Left). shows c l.report l.page) cs ls

pub byte_sessions_show : map (λ cs. rows cs (run_bytes tiny cs (formatted tiny))) (sessions tiny) ≡ shown
unfolding computing
byte_sessions_show = refl
