-- What is known where all checks are passed.
use Rattle.std.proofs.Common.{rules, arith}
use Rattle.opmsg.proofs.Limits.{checksum_small}
use Rattle.message_write_checks.proofs.Cases.{fit}
use Rattle.message_write_checks.proofs.before_reading.Goals as goal

pub returns : goal.returns
returns c =
    let small = checksum_small c.args.flags in
    fit c.args.e c.args.flags c.args.body.now c.args.room (search rules)
    (omega (arith, c.checksum_size.ensures, small))
    (omega (arith, c.checksum_size.ensures, small))
    (omega arith)
    (omega (arith, c.word.ensures))
