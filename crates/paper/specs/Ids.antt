-- File ids, page ids and page numbers are three things; and the later of two times.
use Rattle.std.specs.Prelude.{ℕ, max}
use Rattle.paper.specs.declared.FileId.{FileId}
use Rattle.paper.specs.declared.PageId.{PageId}
use Rattle.paper.specs.declared.PageNum.{PageNum}

abbrev pub file_id : ℕ → FileId
file_id n = record { 0 = n }

abbrev pub page_id : ℕ → PageId
page_id n = record { 0 = n }

abbrev pub page_num : ℕ → PageNum
page_num n = record { 0 = n }

-- 0 is NullId and is never issued; 0 is NullPageId.
abbrev pub null_id : FileId
null_id = file_id 0

abbrev pub null_page_id : PageId
null_page_id = page_id 0

-- File ids run to 2,147,483,647: next id then stands here.
abbrev pub no_more_ids : ℕ
no_more_ids = 2147483648

abbrev pub later : ℕ → ℕ → ℕ
later a b = max a b
