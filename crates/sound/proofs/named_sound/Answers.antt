-- `named_sound` unpacks the header once, tests it, and then its pages where it is live.
use mathlib.Core.Path.{◌≡◌, sym, ap, ◌∙◌}
use mathlib.Core.Bool.{true}
use Rattle.paper.specs.declared.Header.{Header}
use Rattle.paper.specs.Tables.{header_at}
use Rattle.paper.specs.Bytes.{hs_from}
use Rattle.records.proofs.Places.{header_place}
use Rattle.sound.proofs.Headers.{good_within, told_same, not_good, good_expired, good_live}
use Rattle.sound.proofs.named_sound.Goals.{After-header-h, else-c-h-via-then-c-h+else-not-held_once, else-c-h-via-else-c-h}
use Rattle.sound.proofs.named_sound.Goals as goal

-- what was unpacked is header n, and it is in use
same : (r : After-header-h) → r.header-h.result ≡ header_at (hs_from r.args.headers.now) r.args.n
same r = r.header-h.ensures ∙ sym (header_place r.args.headers.now r.args.n r.requires.headers_len.1 r.requires.headers_len.2)

used : (r : After-header-h) → r.header-h.result.used ≡ true
used r = ap (λ (h : Header). h.used) (same r) ∙ r.requires.in_use

pub returns-then-not-good_header : goal.returns-then-not-good_header
returns-then-not-good_header c =
    let r = (goal.at.returns-then-not-good_header c).After-header-h in
    let t = told_same _ _ _ _ (same r) (not_good _ _ _ _ _ (used r) (sym c.if-not-good_header.ensures)) in
    record { value = t.0; marks = t.1 }

pub held_once-requires-clause-slots_in_bounds : goal.held_once-requires-clause-slots_in_bounds
held_once-requires-clause-slots_in_bounds c =
    (c.requires.slots_in_bounds, good_within c.args.bank c.args.c c.header-h.result (sym c.if-not-good_header.ensures))

pub returns-then-not-held_once : goal.returns-then-not-held_once
returns-then-not-held_once c =
    let r = (goal.at.returns-then-not-held_once c).After-header-h in
    let o = c.if-not-held_once.ensures in
    let t = told_same _ _ _ _ (same r) (good_live _ _ _ _ _ (used r) (sym c.if-not-good_header.ensures) c.if-c-h.true _ o.value) in
    record { value = t.0; marks = o.marks ∙ t.1 }

pub returns : goal.returns
returns c =
    let r = (goal.at.returns c).After-header-h in
    let good = sym c.if-not-good_header.ensures in
    elim c.else-c-h.branch [
      | else-c-h-via-then-c-h+else-not-held_once w ↦
          let o = w.if-not-held_once.ensures in
          let t = told_same _ _ _ _ (same r) (good_live _ _ _ _ _ (used r) good w.if-c-h.true _ o.value) in
          record { value = t.0; marks = w.seen-is ∙ o.marks ∙ t.1 }
      | else-c-h-via-else-c-h w ↦
          let t = told_same _ _ _ _ (same r) (good_expired _ _ _ _ _ (used r) good w.if-c-h.false) in
          record { value = t.0; marks = w.seen-is ∙ t.1 }
    ]
