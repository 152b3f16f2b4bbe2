-- `header` reads each field of the record; in use and id share the first word.
use mathlib.Core.Path.{◌≡◌, sym, ap, ◌∙◌}
use lib.ListN.{length}
use Rattle.paper.specs.declared.Header.{Header}
use Rattle.paper.specs.Bytes.{header_from}
use Rattle.records.proofs.Read.{header_fields}
use Rattle.std.proofs.Common.{rules}
use Rattle.records.proofs.header.Goals as goal

pub returns : goal.returns
returns c =
    let r = c.record-r.result.now in
    let long : length r ≡ 36 = search rules in
    let fields = header_fields r long in
    (λ i. record {
      used = c.split_word-used.ensures.0 i;
      id = record { 0 = c.split_word-used.ensures.1 i };
      owner = c.be16-owner.ensures i;
      created = c.be32-created.ensures i;
      updated = c.be32-updated.ensures i;
      expires = c.be32-expires.ensures i;
      pages = (c.unpack_pages-pages.ensures ∙ sym (ap (λ (h : Header). h.pages) fields)) i;
    })
    ∙ fields ∙ ap header_from c.record-r.ensures
