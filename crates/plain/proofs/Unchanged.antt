-- Read, Info and Scavenge have no header step and change no live file: beside them the plain machine only takes the time, whatever was answered.
-- Assumes nothing.
use Prim.Native.Nat.{ℕ}
use mathlib.Core.Path.{◌≡◌, refl}
use mathlib.Core.Bool.{Bool, true, false, ◌&&◌, cond}
use mathlib.Core.List.{List}
use Rattle.std.specs.Prelude.{Option, Some, None}
use lib.Dec.{leb}
use Rattle.paper.specs.declared.FileId.{FileId}
use Rattle.paper.specs.declared.PageNum.{PageNum}
use Rattle.paper.specs.declared.Refusal.TheVariants.{NoSuchFile, NoSuchPage}
use Rattle.paper.specs.Answers.{Request, Read, Info, Scavenge, contents, facts}
use Rattle.paper.specs.Requests.{Reply}
use Rattle.paper.specs.Plain.{File, Plain, does, refuses, told, passed, plain, deed, plain_read, plain_info}
use Rattle.paper.specs.View.{beside, carried}

-- the requests without a header step
pub data Looks : Request → Type 0 where
  reads : (id : FileId) (number : PageNum) (lent : List ℕ) → Looks (Read id number lent)
  informs : (id : FileId) → Looks (Info id)
  sweeps : Looks Scavenge

module _ (m : Plain) (lent : List ℕ) where
  page_read : (p : Option (List ℕ)) → (told lent m (elim p [ None ↦ refuses NoSuchPage | Some c ↦ does (contents c) m ])).machine ≡ m
  unfolding told
  page_read None = refl
  page_read (Some c) = refl

  file_read : (number : PageNum) (f : Option File) → (told lent m (elim f [ None ↦ refuses NoSuchFile | Some g ↦ elim (g.pages number) [ None ↦ refuses NoSuchPage | Some c ↦ does (contents c) m ] ])).machine ≡ m
  unfolding told
  file_read number None = refl
  file_read number (Some f) = page_read (f.pages number)

  file_told : (f : Option File) → (told lent m (elim f [ None ↦ refuses NoSuchFile | Some g ↦ does (facts g.facts) m ])).machine ≡ m
  unfolding told
  file_told None = refl
  file_told (Some f) = refl

only_time : (now : ℕ) (q : Request) (m : Plain) → Looks q → (plain now q m).machine ≡ passed now m
unfolding plain deed plain_read plain_info told
only_time now q m (reads id number lent) = file_read (passed now m) _ number ((passed now m).files id)
only_time now q m (informs id) = file_told (passed now m) _ ((passed now m).files id)
only_time now q m sweeps = refl

either : {A : Type 0} (c : Bool) (x : A) → cond c x x ≡ x
either true x = refl
either false x = refl

pub unchanged : (now : ℕ) (q : Request) (r : Reply) (m : Plain) → Looks q → beside now q r m ≡ cond (leb 1 r.report.number && leb r.report.number 3) m (passed now m)
unfolding beside
unchanged now q r m l = rw (only_time now q m l, either (carried r) (passed now m))
