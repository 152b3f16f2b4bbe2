-- `named_page` finds the header by its id and takes its page id.
use mathlib.Core.Path.{sym, ap, ◌∙◌}
use native.Mathlib.Omega.{arith}
use Rattle.paper.specs.declared.Header.{Header}
use Rattle.paper.specs.Tables.{get_page_id}
use Rattle.records.proofs.Places.{header_place}
use Rattle.stores.proofs.HeaderSlots.{found_slot}
use Rattle.requests.proofs.Looks.{named_none, named_at}
use Rattle.requests.proofs.look.named_page.Goals as goal

pub returns-in_default : goal.returns-in_default
returns-in_default c = sym (named_none _ _ _ _ (sym c.find_header.ensures ∙ c.in_default.is))

-- the search found slot n
pub header-requires : goal.header-requires
header-requires c = let i = found_slot _ _ _ (sym c.find_header.ensures ∙ c.in-Some.is) in omega (arith, c.requires.headers_len)

pub returns : goal.returns
returns c =
    let found = sym c.find_header.ensures ∙ c.in-Some.is in
    let i = found_slot _ _ _ found in
    c.page.ensures
    ∙ ap (λ (h : Header). get_page_id h c.args.number) (c.header.ensures ∙ sym (header_place _ _ i.0 i.1))
    ∙ sym (named_at _ _ _ _ _ found)
