-- The plain machine: a clock, a next id, and files. Nothing in it knows of slots, steps or banks.
use Rattle.std.specs.Prelude.{ℕ, ◌+◌, cond, List, eqb, ltb, Option, Some, None}
use Rattle.paper.specs.declared.FileId.{FileId}
use Rattle.paper.specs.declared.PageNum.{PageNum}
use Rattle.paper.specs.declared.Facts.{Facts}
use Rattle.paper.specs.declared.Refusal.{Refusal}
use Rattle.paper.specs.declared.Refusal.TheVariants.{NoSuchFile, NotOwner, NoSuchPage, NoIds}
use Rattle.paper.specs.Ids.{file_id, no_more_ids, later}
use Rattle.paper.specs.Answers.{Request, Create, Write, Read, Info, Destroy, SetExpiry, Scavenge, lent_page, Report, Gift, nothing, an_id, facts, contents, succeeded, refused, page_after}

-- owner, three times, and pages by number
pub record File : Type 0 where
  pub facts : Facts
  pub pages : PageNum → Option (List ℕ)

pub record Plain : Type 0 where
  pub clock : ℕ
  pub next : ℕ
  pub files : FileId → Option File

-- no files, clock 0, next id 1
abbrev pub fresh_machine : Plain
fresh_machine = record { clock = 0; next = 1; files = λ x. None }

-- It never holds a file whose expiry its clock has reached, a new one included.
abbrev pub kept : ℕ → Option File → Option File
kept now None = None
kept now (Some f) = cond (ltb now f.facts.expires) (Some f) None

-- only the time taken
unfoldable pub passed : ℕ → Plain → Plain
passed now m = record { clock = now; next = m.next; files = λ x. kept now (m.files x) }

abbrev pub without : FileId → Plain → Plain
without id m = record { clock = m.clock; next = m.next; files = λ x. cond (eqb x.0 id.0) None (m.files x) }

abbrev pub holding : File → Plain → Plain
holding f m = record {
  clock = m.clock;
  next = m.next + 1;
  files = λ x. cond (eqb x.0 m.next) (kept m.clock (Some f)) (m.files x);
}

-- What the machine makes of a request: what it gives and the machine then, or the refusal.
pub data Deed : Type 0 where
  does : Gift → Plain → Deed
  refuses : Refusal → Deed

-- the file under the next id, which is given
abbrev pub storing : File → Plain → Deed
storing f m = cond (ltb m.next no_more_ids) (does (an_id (file_id m.next)) (holding f m)) (refuses NoIds)

abbrev pub on_file : FileId → Plain → (File → Deed) → Deed
on_file id m d = elim (m.files id) [ None ↦ refuses NoSuchFile | Some f ↦ d f ]

abbrev pub by_owner : ℕ → File → Deed → Deed
by_owner client f d = cond (eqb f.facts.owner client) d (refuses NotOwner)

abbrev pub with_page : PageNum → List ℕ → (PageNum → Option (List ℕ)) → PageNum → Option (List ℕ)
with_page number page pages n = cond (eqb n.0 number.0) (Some page) (pages n)

unfoldable pub plain_create : ℕ → PageNum → List ℕ → ℕ → Plain → Deed
plain_create client number page expires m =
    storing (record {
      facts = record { owner = client; created = m.clock; updated = m.clock; expires = later expires m.clock };
      pages = with_page number page (λ n. None);
    }) m

-- the file again, with another expiry and other pages, updated now
abbrev pub renewed : Plain → ℕ → (PageNum → Option (List ℕ)) → File → File
renewed m e pages f = record {
  facts = record { owner = f.facts.owner; created = f.facts.created; updated = m.clock; expires = e };
  pages = pages;
}

unfoldable pub plain_write : ℕ → FileId → PageNum → List ℕ → Plain → Deed
plain_write client id number page m =
    on_file id m (λ f. by_owner client f (storing (renewed m f.facts.expires (with_page number page f.pages) f) (without id m)))

unfoldable pub plain_read : FileId → PageNum → Plain → Deed
plain_read id number m = on_file id m (λ f. elim (f.pages number) [ None ↦ refuses NoSuchPage | Some c ↦ does (contents c) m ])

unfoldable pub plain_info : FileId → Plain → Deed
plain_info id m = on_file id m (λ f. does (facts f.facts) m)

unfoldable pub plain_destroy : ℕ → FileId → Plain → Deed
plain_destroy client id m = on_file id m (λ f. by_owner client f (does nothing (without id m)))

unfoldable pub plain_set_expiry : ℕ → FileId → ℕ → Plain → Deed
plain_set_expiry client id expires m =
    on_file id m (λ f. by_owner client f (storing (renewed m (later expires m.clock) f.pages f) (without id m)))

unfoldable pub deed : Request → Plain → Deed
deed (Create client number page expires) m = plain_create client number page expires m
deed (Write client id number page) m = plain_write client id number page m
deed (Read id number lent) m = plain_read id number m
deed (Info id) m = plain_info id m
deed (Destroy client id) m = plain_destroy client id m
deed (SetExpiry client id expires) m = plain_set_expiry client id expires m
deed Scavenge m = does nothing m

-- What a request answers on the plain machine, and the machine that it leaves.
pub record Told : Type 0 where
  pub report : Report
  pub page : List ℕ
  pub machine : Plain

unfoldable pub told : List ℕ → Plain → Deed → Told
told lent m (does g m') = record { report = succeeded g; page = page_after g lent; machine = m' }
told lent m (refuses a) = record { report = refused a; page = lent; machine = m }

-- the time is taken first
unfoldable pub plain : ℕ → Request → Plain → Told
plain now r m = told (lent_page r) (passed now m) (deed r (passed now m))
