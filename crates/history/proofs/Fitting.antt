-- What a request leaves is within the ranges of its layouts again, for page ids of nine bits and the numbers of the service's parameters.
-- Assumes nothing.
use Prim.Native.Nat.{ℕ, ◌^◌, ◌<◌, ◌≤◌}
use mathlib.Core.Path.{◌≡◌, refl}
use mathlib.Core.Bool.{true, false, not}
use mathlib.Core.List.{List, [], ◌∷◌}
use native.Mathlib.Omega.{arith}
use lib.ListN.{length}
use lib.Dec.{eqb, leb}
use Rattle.bits.specs.Field.{Bytes}
use Rattle.bits.specs.Field.Within.{one}
use Rattle.paper.specs.declared.Bank.{Bank}
use Rattle.paper.specs.declared.FileId.{FileId}
use Rattle.paper.specs.declared.PageId.{PageId}
use Rattle.paper.specs.declared.PageNum.{PageNum}
use Rattle.paper.specs.declared.Header.{Header}
use Rattle.paper.specs.declared.Refusal.TheVariants.{NotOwner, NoSuchPage}
use Rattle.paper.specs.Ids.{file_id, page_id, later}
use Rattle.paper.specs.Lists.{is_zero}
use Rattle.paper.specs.Tables.{Tables, get_page_id, slot_at, with_clock}
use Rattle.paper.specs.Stores.{read_header, create_page, destroy_page}
use Rattle.paper.specs.Steps.{Run, on, end, State, step, cleanup, ask, each_page, on_headers, on_pages}
use Rattle.paper.specs.Answers.{Request, Create, Write, Read, Info, Destroy, SetExpiry, Scavenge, lent_page, Gift, nothing, an_id, facts, counts, contents}
use Rattle.paper.specs.Requests.{header_in, make_header, put_page_id, set_header_expiry, facts_of, create, write, read, info, destroy, set_expiry, scavenge, steps_of, reply_of, carry_out, well_formed}
use Rattle.records.specs.Fits.{HeaderFits}
use Rattle.stores.proofs.Slots.{full_slot_fits}
use Rattle.requests.proofs.Fits.{made_fits, paged_fits, expiring_fits}
use Rattle.service.proofs.Admission.{page_fits_lem}
use Rattle.history.specs.History.{Given}
use Rattle.plain.proofs.Logic.{Ends}
use Rattle.history.proofs.Keeping.{Keeping, Any, ◌>>=◌, ◌>>◌, keeps_give, keeps_ask, keeps_either, keeps_check, keeps_each}
use Rattle.history.proofs.Ranges.{Fit, header_fits, replace_fits, create_fits, read_fits, destroy_fits, scavenge_fits, create_page_fits, read_page_fits, destroy_page_fits, expiry_fits, scavenge_pages_fits, clocked_fits, on_headers_lem, at_header, on_pages_lem, after_pages}

expiry_small : (h : Header) → HeaderFits h → h.expires < 2 ^ 32
expiry_small h (one u (one i (one o (one c (one d (one e r)))))) = e

module _ (b : Bank) (few : b.slots ≤ 511) (now : ℕ) (time : now < 2 ^ 32) where
  -- what the rows have in common

  finds : (id : FileId) → Keeping (Fit b) (step (on_headers (read_header now id))) Any
  finds id = on_headers_lem (read_fits now id)

  learns : (n : ℕ) → Keeping (Fit b) (ask (header_in n)) HeaderFits
  learns n = keeps_ask (header_in n) (λ t w. header_fits n t.hs w.headers)

  makes_page : (page : List ℕ) (e : ℕ) → Bytes page → length page ≡ b.size → e < 2 ^ 32 → Keeping (Fit b) (step (on_pages (create_page now page e))) (λ p. p ≤ b.slots)
  makes_page page e bytes l small = on_pages_lem (create_page_fits b now e page (full_slot_fits b e page small bytes l))

  with_page_lem : (number : PageNum) (p : ℕ) (h : Header) → p ≤ b.slots → HeaderFits h → HeaderFits (put_page_id now number (page_id p) h)
  with_page_lem number p h le f =
      let small : p < 2 ^ 9 = omega arith in
      paged_fits now time number (page_id p) h (put_page_id now number (page_id p) h) refl small f

  wipes : (ps : List PageId) → Keeping (Fit b) (each_page (λ q. cleanup (on_pages (destroy_page b q))) ps) Any
  wipes = keeps_each _ (λ q. after_pages (destroy_page_fits b q))

  -- the rows

  module _ (client : ℕ) (number : PageNum) (page : List ℕ) (bytes : Bytes page) (whole : length page ≡ b.size) where
    create_fitting : (expires : ℕ) → client < 2 ^ 16 → expires < 2 ^ 32 → Keeping (Fit b) (create now client number page expires) Any
    unfolding create
    create_fitting expires c x =
        let e = later expires now in
        let small : later expires now < 2 ^ 32 = omega arith in
        let h = make_header now client e in
        makes_page page e bytes whole small >>= λ p le.
        at_header (create_fits now _ (with_page_lem number p h le (made_fits now time client e h refl c small))) >>= λ i _.
        keeps_give (an_id (file_id i))

    write_fitting : (id : FileId) → Keeping (Fit b) (write b now client id number page) Any
    unfolding write
    write_fitting id =
        finds id >>= λ n _.
        learns n >>= λ h f.
        keeps_check (eqb h.owner client) NotOwner >>
        makes_page page h.expires bytes whole (expiry_small h f) >>= λ p le.
        at_header (replace_fits n _ (with_page_lem number p h le f)) >>= λ i _.
        wipes (get_page_id h number ∷ []) >>
        keeps_give (an_id (file_id i))

  read_fitting : (id : FileId) (number : PageNum) → Keeping (Fit b) (read b now id number) Any
  unfolding read
  read_fitting id number =
      finds id >>= λ n _.
      learns n >>= λ h _.
      keeps_check (not (is_zero (get_page_id h number).0)) NoSuchPage >>
      on_pages_lem (read_page_fits b (get_page_id h number)) >>= λ p _.
      keeps_ask {Q = Any} (λ t. (slot_at b t.ps (page_id p)).contents) (λ t w. tt) >>= λ c _.
      keeps_give (contents c)

  info_fitting : (id : FileId) → Keeping (Fit b) (info now id) Any
  unfolding info
  info_fitting id =
      finds id >>= λ n _.
      learns n >>= λ h _.
      keeps_give (facts (facts_of h))

  destroy_fitting : (client : ℕ) (id : FileId) → Keeping (Fit b) (destroy b now client id) Any
  unfolding destroy
  destroy_fitting client id =
      finds id >>= λ n _.
      learns n >>= λ h _.
      keeps_check (eqb h.owner client) NotOwner >>
      at_header (destroy_fits n) >>
      wipes h.pages >>
      keeps_give nothing

  set_expiry_fitting : (client : ℕ) (id : FileId) (expires : ℕ) → expires < 2 ^ 32 → Keeping (Fit b) (set_expiry b now client id expires) Any
  unfolding set_expiry
  set_expiry_fitting client id expires x =
      let e = later expires now in
      let small : later expires now < 2 ^ 32 = omega arith in
      finds id >>= λ n _.
      learns n >>= λ h f.
      keeps_check (eqb h.owner client) NotOwner >>
      let stored = at_header {b = b} (replace_fits n (set_header_expiry now e h) (expiring_fits now time e h (set_header_expiry now e h) refl small f)) in
      keeps_either (leb h.expires e)
      (keeps_each _ (λ q. on_pages_lem (expiry_fits b e small q)) h.pages >> stored)
      (stored >>= λ i _. keeps_each _ (λ q. after_pages (expiry_fits b e small q)) h.pages >> keeps_give i)
      >>= λ i _.
      keeps_give (an_id (file_id i))

  scavenge_fitting : Keeping (Fit b) (scavenge b now) Any
  unfolding scavenge
  scavenge_fitting =
      on_headers_lem (scavenge_fits now) >>= λ h _.
      on_pages_lem (scavenge_pages_fits b now) >>= λ p _.
      keeps_give (counts (record { headers = h; pages = p }))

  steps_fitting : (q : Request) → Given q → well_formed b q ≡ true → Keeping (Fit b) (steps_of b now q) Any
  unfolding steps_of well_formed
  steps_fitting (Create client number page expires) g w = create_fitting client number page g.1 (page_fits_lem b number page w).1 expires g.0 g.2
  steps_fitting (Write client id number page) g w = write_fitting client number page g.1 (page_fits_lem b number page w).1 id
  steps_fitting (Read id number lent) g w = read_fitting id number
  steps_fitting (Info id) g w = info_fitting id
  steps_fitting (Destroy client id) g w = destroy_fitting client id
  steps_fitting (SetExpiry client id expires) g w = set_expiry_fitting client id expires g
  steps_fitting Scavenge g w = scavenge_fitting

  pub carried_out_fits : (os : List ℕ) (q : Request) (t : Tables) → Given q → well_formed b q ≡ true → Fit b t → Fit b (carry_out b now os q t).tables
  unfolding carry_out reply_of
  carried_out_fits os q t g w f =
      let s : State = record { taken = 0; past = false; tables = with_clock now t } in
      go (steps_of b now q os s) ((steps_fitting q g w).run os s (clocked_fits b now t time f))
    where
      go : (r : Run Gift) → Ends (λ a u t. Fit b t) (λ a u t. Fit b t × Any a) r → Fit b (reply_of (lent_page q) r).tables
      go (on a s) p = p.0
      go (end a s) p = p
