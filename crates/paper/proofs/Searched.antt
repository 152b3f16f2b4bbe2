-- What a step makes of its store, by what its search found: a read of a header, a create of a header, a create of a page.
-- Assumes nothing.
use Prim.Native.Nat.{ℕ}
use mathlib.Core.Path.{◌≡◌}
use mathlib.Core.List.{List}
use Rattle.paper.specs.declared.FileId.{FileId}
use Rattle.paper.specs.declared.Header.{Header}
use Rattle.paper.specs.declared.Refusal.TheVariants.{NoSuchFile, NoSpace}
use Rattle.std.specs.Prelude.{Some, None}
use Rattle.paper.specs.Ids.{page_id}
use Rattle.paper.specs.Lists.{lowest}
use Rattle.paper.specs.Tables.{HS, PS, header_free, slot_free, put_slot}
use Rattle.paper.specs.Stores.{gone, no, has_id, read_header, create_header, replace_header, full_slot, create_page}

module _ (t : ℕ) (s : HS) where
  module _ (id : FileId) where
    pub read_none : lowest (has_id t id) s.headers ≡ None → read_header t id s ≡ no NoSuchFile
    unfolding read_header
    read_none e = rw (e, read_header)

    pub read_at : (n : ℕ) → lowest (has_id t id) s.headers ≡ Some n → read_header t id s ≡ gone n s
    unfolding read_header
    read_at n e = rw (e, read_header)

  module _ (h : Header) where
    pub header_none : lowest (header_free t) s.headers ≡ None → create_header t h s ≡ no NoSpace
    unfolding create_header
    header_none e = rw (e, create_header)

    pub header_at_lem : (n : ℕ) → lowest (header_free t) s.headers ≡ Some n → create_header t h s ≡ replace_header n h s
    unfolding create_header
    header_at_lem n e = rw (e, create_header)

module _ (t e : ℕ) (page : List ℕ) (ps : PS) where
  pub page_none : lowest (slot_free t) ps ≡ None → create_page t page e ps ≡ no NoSpace
  unfolding create_page
  page_none h = rw (create_page, h)

  pub page_at_lem : (n : ℕ) → lowest (slot_free t) ps ≡ Some n → create_page t page e ps ≡ gone n (put_slot (page_id n) (full_slot page e) ps)
  unfolding create_page
  page_at_lem n h = rw (create_page, h)
