-- One call, as its caller may have seen it: the bytes that it left are sound, show what the plain machine then holds, and a Success told what the machine tells.
-- Assumes nothing.
use Prim.Native.Nat.{ℕ, ◌≤◌}
use mathlib.Core.Path.{◌≡◌, sym, ap, ◌∙◌}
use mathlib.Core.Bool.{true}
use mathlib.Core.List.{List}
use Rattle.paper.specs.declared.Bank.{Bank}
use Rattle.paper.specs.Sound.{sound}
use Rattle.paper.specs.Answers.{Request}
use Rattle.paper.specs.Requests.{serve}
use Rattle.paper.specs.Bytes.{tables_from}
use Rattle.paper.specs.Service.{Left, written}
use Rattle.paper.specs.View.{view}
use Rattle.service.specs.Border.{left}
use Rattle.history.specs.History.{Asked, formats, asks, Seen, Allowed, Buffers, machine_then, Agreed}
use Rattle.history.proofs.Served.{served_kept, served_fits, buffers_fit, served_bytes, read_back}
use Rattle.history.proofs.Fresh.{formatted}

pub record Call (b : Bank) (headers pages : List ℕ) (s : Seen) (a : Asked) : Type 0 where
  pub sound : sound b (tables_from b s.headers s.pages) ≡ true
  pub shown : view b (tables_from b s.headers s.pages) ≡ machine_then b headers pages a (view b (tables_from b headers pages))
  pub agreed : Agreed s a (view b (tables_from b headers pages))

module _ (b : Bank) (few : b.slots ≤ 511) (headers pages : List ℕ) (l : Buffers b headers pages) (ok : sound b (tables_from b headers pages) ≡ true) (s : Seen) where
  request_call : (now : ℕ) (os : List ℕ) (q : Request) → Allowed b headers pages s (asks now os q) → Call b headers pages s (asks now os q)
  request_call now os q a =
      let t = tables_from b headers pages in
      let r = serve b now os q t in
      let f = buffers_fit b headers pages l in
      let k = served_kept b now os q t f ok in
      let e : left s.report s.page s.headers s.pages ≡ written (serve b now os q (tables_from b headers pages)) = a.2 ∙ served_bytes b headers pages l now os q in
      let same : tables_from b s.headers s.pages ≡ (serve b now os q (tables_from b headers pages)).tables =
      ap (λ (w : Left). tables_from b w.headers w.pages) e ∙ read_back b r.tables (served_fits b now os q t f ok few a.0 a.1) in
      record {
        sound = rw same k.sound;
        shown = rw same k.shown;
        agreed = λ z. let g = k.success (sym (ap (λ (w : Left). w.report.number) e) ∙ z) in record {
          number = g.number;
          id = g.id ∙ sym (ap (λ (w : Left). w.report.id) e);
          facts = g.facts ∙ sym (ap (λ (w : Left). w.report.facts) e);
          page = g.page ∙ sym (ap (λ (w : Left). w.page) e);
        };
      }

  pub call : (a : Asked) → Allowed b headers pages s a → Call b headers pages s a
  call formats e =
      let f = formatted b headers pages s.headers s.pages l.header_table_len l.page_table_len s.report e in
      record { sound = f.0; shown = f.1; agreed = tt }
  call (asks now os q) a = request_call now os q a
