-- `store` sets one word; past the end there is none.
use mathlib.Core.Path.{sym}
use lib.Seq.{set_out}
use Rattle.findings.proofs.store.Goals as goal

pub returns-else-i-l : goal.returns-else-i-l
returns-else-i-l c = sym (set_out c.args.l.now _ _ c.if-i-l.false)
