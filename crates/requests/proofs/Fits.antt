-- A header that the requests make of one within its ranges is within its ranges.
-- Assumes nothing.
use Prim.Native.Nat.{ℕ, zero, suc, ◌^◌, ◌<◌}
use mathlib.Core.Path.{◌≡◌}
use mathlib.Core.List.{List, [], ◌∷◌}
use native.Mathlib.Omega.{arith}
use lib.ListN.{set, replicate}
use Rattle.bits.specs.Field.{Within, nines}
use Rattle.bits.specs.Field.Within.{one}
use Rattle.bits.proofs.Within.{within_length, within_test}
use Rattle.paper.specs.declared.PageId.{PageId}
use Rattle.paper.specs.declared.PageNum.{PageNum}
use Rattle.paper.specs.declared.Header.{Header}
use Rattle.paper.specs.Tables.{no_pages}
use Rattle.paper.specs.Bytes.{ids_of, header_from}
use Rattle.paper.specs.Requests.{make_header, put_page_id, set_header_expiry}
use Rattle.records.specs.Fits.{HeaderFits}
use Rattle.records.proofs.Records.{header_fits}

ids_set : (k w i : ℕ) (ps : List PageId) (p : PageId) → p.0 < 2 ^ w → Within (replicate k w) (ids_of ps) → Within (replicate k w) (ids_of (set ps i p))
ids_set k w i [] p l h = h
ids_set zero w i (q ∷ ps) p l h = absurd (omega (arith, within_length h))
ids_set (suc k) w zero (q ∷ ps) p l (one x r) = one l r
ids_set (suc k) w (suc i) (q ∷ ps) p l (one x r) = one x (ids_set k w i ps p l r)

pub read_fits : (xs : List ℕ) (h : Header) → h ≡ header_from xs → HeaderFits h
read_fits xs h e = rw e (header_fits xs)

module _ (time : ℕ) (t : time < 2 ^ 32) where
  pub made_fits : (client e : ℕ) (g : Header) → g ≡ make_header time client e → client < 2 ^ 16 → e < 2 ^ 32 → HeaderFits g
  made_fits client e g eg c l =
      let used : 1 < 2 ^ 1 = omega arith in
      let id : 0 < 2 ^ 31 = omega arith in
      rw eg (one used (one id (one c (one t (one t (one l (within_test nines (ids_of no_pages) tt)))))))

  with_page_fits : (n : PageNum) (p : PageId) (h : Header) → p.0 < 2 ^ 9 → HeaderFits h → HeaderFits (put_page_id time n p h)
  with_page_fits n p h l (one u (one i (one o (one c (one d (one e ps)))))) = one u (one i (one o (one c (one t (one e (ids_set 16 9 n.0 h.pages p l ps))))))

  pub paged_fits : (n : PageNum) (p : PageId) (h g : Header) → g ≡ put_page_id time n p h → p.0 < 2 ^ 9 → HeaderFits h → HeaderFits g
  paged_fits n p h g eg l f = rw eg (with_page_fits n p h l f)

  with_expiry_fits : (e : ℕ) (h : Header) → e < 2 ^ 32 → HeaderFits h → HeaderFits (set_header_expiry time e h)
  with_expiry_fits e h l (one u (one i (one o (one c (one d (one e' ps)))))) = one u (one i (one o (one c (one t (one l ps)))))

  pub expiring_fits : (e : ℕ) (h g : Header) → g ≡ set_header_expiry time e h → e < 2 ^ 32 → HeaderFits h → HeaderFits g
  expiring_fits e h g eg l f = rw eg (with_expiry_fits e h l f)
