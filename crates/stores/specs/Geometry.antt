-- The lengths that a store's table has, what a function's result tells of its step, and what a read leaves in the page lent to it.
use Rattle.std.specs.Prelude.{ℕ, ◌≤◌, ◌≡◌, List, length, Result, Ok, Err}
use Rattle.paper.specs.declared.Bank.{Bank}
use Rattle.paper.specs.declared.FileId.{FileId}
use Rattle.paper.specs.declared.PageId.{PageId}
use Rattle.paper.specs.declared.Refusal.{Refusal}
use Rattle.stores.specs.declared.slot.HeaderSlot.{HeaderSlot}
use Rattle.paper.specs.Bytes.{pages_length}

-- as many slots as page ids of nine bits can name
pub record Geometry (b : Bank) (pages : List ℕ) : Type 0 where
  pub few : b.slots ≤ 511
  pub whole : length pages ≡ pages_length b

-- A step's result has a number where it went through; a function's has the value that n makes the number of.
abbrev pub as_step : {A : Type 0} → (A → ℕ) → Result A Refusal → Result ℕ Refusal
as_step n (Ok a) = Ok (n a)
as_step n (Err r) = Err r

abbrev pub of_file : Result FileId Refusal → Result ℕ Refusal
of_file r = as_step (λ (i : FileId). i.0) r

abbrev pub of_page : Result PageId Refusal → Result ℕ Refusal
of_page r = as_step (λ (p : PageId). p.0) r

abbrev pub of_slot : Result HeaderSlot Refusal → Result ℕ Refusal
of_slot r = as_step (λ (s : HeaderSlot). s.number) r

-- of a step whose number, n, is known beforehand
abbrev pub of_known : ℕ → Result (Unit {0}) Refusal → Result ℕ Refusal
of_known n r = as_step (λ u. n) r

-- what a lent page holds after a read: the contents if it went through, what it held otherwise
abbrev pub lent_after : Result (Unit {0}) Refusal → List ℕ → List ℕ → List ℕ
lent_after (Ok u) contents lent = contents
lent_after (Err r) contents lent = lent
