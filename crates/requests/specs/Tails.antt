-- What is left of a request once its header is found, as rows of steps.
use Rattle.std.specs.Prelude.{ℕ, List, [], ◌∷◌}
use Rattle.paper.specs.declared.Bank.{Bank}
use Rattle.paper.specs.declared.PageNum.{PageNum}
use Rattle.paper.specs.declared.Header.{Header}
use Rattle.paper.specs.Ids.{file_id, page_id}
use Rattle.paper.specs.Tables.{get_page_id}
use Rattle.paper.specs.Stores.{create_page, destroy_page, set_page_expiry, replace_header}
use Rattle.paper.specs.Steps.{Steps, ◌>>=◌, ◌>>◌, give, step, cleanup, header_step, each_page, on_pages}
use Rattle.paper.specs.Answers.{Gift, an_id}
use Rattle.paper.specs.Requests.{put_page_id, set_header_expiry}

-- Write from step 2 on
unfoldable pub writing : Bank → ℕ → ℕ → Header → PageNum → List ℕ → Steps Gift
writing b now n h number page = do
  p ← step (on_pages (create_page now page h.expires))
  i ← header_step (replace_header n (put_page_id now number (page_id p) h))
  each_page (λ q. cleanup (on_pages (destroy_page b q))) (get_page_id h number ∷ [])
  give (an_id (file_id i))

-- SetExpiry once the header is found: a life made longer, and one made shorter
unfoldable pub lengthening : Bank → ℕ → ℕ → ℕ → Header → Steps ℕ
lengthening b now e n h = do
  each_page (λ q. step (on_pages (set_page_expiry b e q))) h.pages
  header_step (replace_header n (set_header_expiry now e h))

unfoldable pub shortening : Bank → ℕ → ℕ → ℕ → Header → Steps ℕ
shortening b now e n h = do
  i ← header_step (replace_header n (set_header_expiry now e h))
  each_page (λ q. cleanup (on_pages (set_page_expiry b e q))) h.pages
  give i

-- the number that a row goes on with is the id that the request gives
abbrev pub issuing : Steps ℕ → Steps Gift
issuing m = m >>= λ i. give (an_id (file_id i))
