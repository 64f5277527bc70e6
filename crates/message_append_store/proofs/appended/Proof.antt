-- `message_append_store::appended` meets its contract: header, flag word, sections and checksum are stored one behind the other.
-- Assumes nothing.
use borrow.Author.Rules.{rules}
use Rattle.message_append_store.proofs.Grown.{message_stored}
use Rattle.message_append_store.proofs.appended.Statement.{statement}
use Rattle.message_append_store.proofs.appended.Tie as tie

returns : tie.Need-returns
returns c =
    let p2 = c in
    let p6 = c in
    let p10 = c in
    let p15 = c in
    let p19 = c in
    let p24 = c in
    let p25 = c in
    let p31 = c in
    message_stored _ _ _ _ _ _ p31.requires.0 p31.requires.1 p31.requires.2 (rw (← p25.checksum_size.ensures) p24.put_word.ensures) p19.put.ensures
    p15.put_word-2.ensures p10.put-2.ensures p6.section.ensures p2.seal.ensures

pub appended_spec : {M : Type 1} → statement M
appended_spec =
    tie.close
    (tie.spec
    (λ c. search rules)
    (λ c. search rules)
    (λ c. search rules)
    (λ c. search rules)
    (λ c κs. search rules)
    (λ c. search rules)
    (λ c κs. search rules)
    (λ c. search rules)
    (λ c. search rules)
    (λ c. search rules)
    (λ c κs. search rules)
    (λ c κs. search rules)
    (λ c. search rules)
    (λ c. search rules)
    (λ c. search rules)
    (λ c κs. search rules)
    (λ c κs. search rules)
    (λ c κs. search rules)
    (λ c. search rules)
    returns)
