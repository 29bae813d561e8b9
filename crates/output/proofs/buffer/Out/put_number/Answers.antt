-- `put_number` meets its contract: what `io::decimal` spells is the number in decimal.
use Rattle.output.proofs.Queues.{put_as}
use Rattle.output.proofs.Decimals.{spelt_decimal}
use Rattle.output.proofs.buffer.Out.put_number.Goals as goal

pub returns : goal.returns
returns c =
    put_as (spelt_decimal c.args.n c.decimal-k.result _ c.decimal-k.ensures.len c.decimal-k.ensures.digits)
    c.put_all.ensures
