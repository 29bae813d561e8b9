-- `put` meets its contract: the store raises one number, or changes nothing.
use Rattle.classes.proofs.Slack.{put_one, put_none}
use Rattle.classes.proofs.put.Goals as goal
use Rattle.classes.proofs.put.Goals.{then-rep-q, else-rep-q}

pub returns : goal.returns
returns c =
    let a = c.args in
    let p = c.requires in
    let k = c.if-rep-q.k in
    elim c.if-rep-q.branch [
      | then-rep-q w ↦ put_none a.rep.now a.q a.v k p.0 w.if-rep-q.true w.k-is
      | else-rep-q w ↦ put_one a.rep.now a.q a.v k p.0 p.1 p.2 w.if-rep-q.false w.k-is
    ]
