-- `split_word` reads the first word; in use and the number share it.
use Rattle.records.proofs.Read.{word_used, word_number}
use Rattle.records.proofs.split_word.Goals as goal

pub returns : goal.returns
returns c =
    let s = c in
    let word = c.be32-word in
    let r = s.args.r.now in
    (word_used word.result r s.requires word.ensures, word_number word.result r s.requires word.ensures)
