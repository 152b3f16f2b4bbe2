-- Where a request stands, and page ids that name slots.
use Rattle.std.specs.Prelude.{ℕ, Bool, List, leb}
use Rattle.paper.specs.declared.PageId.{PageId}
use Rattle.paper.specs.Lists.{all}
use Rattle.paper.specs.Tables.{HS, PS}
use Rattle.paper.specs.Steps.{State}

-- taken steps, whether the header step is among them, the two stores
abbrev pub standing : ℕ → Bool → HS → PS → State
standing k past hs ps = record { taken = k; past = past; tables = record { hs = hs; ps = ps } }

-- page ids that name slots of the bank, or none
abbrev pub named : ℕ → List PageId → Bool
named slots ps = all (λ (p : PageId). leb p.0 slots) ps
