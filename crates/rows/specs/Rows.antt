-- The rows of steps that several requests share, and the clock.
use Rattle.std.specs.Prelude.{ℕ, Bool, cond, List}
use Rattle.paper.specs.declared.Bank.{Bank}
use Rattle.paper.specs.declared.FileId.{FileId}
use Rattle.paper.specs.declared.PageId.{PageId}
use Rattle.paper.specs.Tables.{HS, PS, with_control}
use Rattle.paper.specs.Stores.{Try, destroy_page, set_page_expiry, read_header}
use Rattle.paper.specs.Steps.{Steps, ◌>>=◌, ◌>>◌, give, ask, step, cleanup, each_page, on_headers, on_pages}
use Rattle.paper.specs.Requests.{header_in, check_owner}
use Rattle.rows.specs.declared.Deed.{Deed}
use Rattle.rows.specs.declared.Deed.TheVariants.{Destroy, Expire}

-- the header store with now as its clock
abbrev pub clocked : ℕ → HS → HS
clocked now s = with_control (record { next = s.control.next; clock = now }) s

-- step 1 and the owner check: the number of the header's slot
unfoldable pub opening : ℕ → ℕ → FileId → Steps ℕ
opening now client id = do
  n ← step (on_headers (read_header now id))
  h ← ask (header_in n)
  check_owner client h
  give n

-- what a deed makes of the slots: the page destroyed, or its expiry set
abbrev pub deed_on : Bank → Deed → PageId → PS → Try PS
deed_on b Destroy p = destroy_page b p
deed_on b (Expire e) p = set_page_expiry b e p

-- the deed done to each page: passing over what is refused, after the header step, or ending with it
unfoldable pub each_deed : Bank → Deed → Bool → List PageId → Steps ℕ
each_deed b deed pass ps = each_page (λ q. cond pass (cleanup (on_pages (deed_on b deed q))) (step (on_pages (deed_on b deed q)))) ps
