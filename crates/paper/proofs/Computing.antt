-- One word that opens every definition, so that a computed statement need only say `unfolding computing`.
use Prim.Native.Nat.{ℕ}
use mathlib.Core.List.{zip_with}
use Rattle.bits.specs.Field.{value, pack, unpack}
use Rattle.paper.specs.Lists.{lowest_from, numbered, put_at}
use Rattle.paper.specs.Sound.{s1, zero_header, good_header, header_sound, s2, zero_slot, slot_sound, s3, held, s4, page_ids, s5, sound}
use Rattle.paper.specs.Stores.{replace_header, create_header, read_header, destroy_header, scavenge_headers, create_page, read_page, destroy_page, set_page_expiry, scavenge_pages}
use Rattle.paper.specs.Steps.{allowed, tried, attempt, in_headers, in_pages, follow, ◌>>=◌, ◌>>◌, give, refuse, ask, check, attempted, settle, step, pass_over, cleanup, marked, header_step, each_page}
use Rattle.paper.specs.Answers.{lent_page}
use Rattle.paper.specs.Requests.{create, write, read, info, destroy, set_expiry, scavenge, steps_of, reply_of, carry_out, page_fits, well_formed, checked, serve}
use Rattle.paper.specs.Bytes.{control_bytes, control_from, spare_from, header_bytes, header_from, slot_bytes, slot_from, parts, joined, hs_from, header_table, ps_from, page_table}
use Rattle.paper.specs.Service.{refusal, serve_bytes, format, look, named_page, look_slot}
use Rattle.paper.specs.Plain.{passed, plain_create, plain_write, plain_read, plain_info, plain_destroy, plain_set_expiry, deed, told, plain}
use Rattle.paper.specs.View.{view, carried, beside}
use Rattle.paper.specs.Sessions.{run, run_bytes, formatted, given, shows, session13}

unfoldable pub computing : ℕ
unfolding zip_with value pack unpack lowest_from numbered put_at s1 zero_header good_header header_sound s2 zero_slot slot_sound s3 held s4 page_ids s5 sound replace_header create_header read_header destroy_header scavenge_headers create_page read_page destroy_page set_page_expiry scavenge_pages allowed tried attempt in_headers in_pages follow ◌>>=◌ ◌>>◌ give refuse ask check attempted settle step pass_over cleanup marked header_step each_page lent_page create write read info destroy set_expiry scavenge steps_of reply_of carry_out page_fits well_formed checked serve control_bytes control_from spare_from header_bytes header_from slot_bytes slot_from parts joined hs_from header_table ps_from page_table refusal serve_bytes format look named_page look_slot passed plain_create plain_write plain_read plain_info plain_destroy plain_set_expiry deed told plain view carried beside run run_bytes formatted given shows session13
computing = 0
