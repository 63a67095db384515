use Rattle.std.proofs.Common.{sym, ◌∙◌}
use Rattle.statement_parse.proofs.Lists.{list_then, list_else}
use Rattle.statement_parse.proofs.pieces.is_list.Goals as goal

pub returns-then-not-is_empty : goal.returns-then-not-is_empty
returns-then-not-is_empty c = list_then _ _ (sym c.is_empty.ensures ∙ c.if-not-is_empty.true) c.is_ascending.ensures

pub returns-else-not-is_empty : goal.returns-else-not-is_empty
returns-else-not-is_empty c = rw c.if-not-is_empty.false (list_else _ (sym c.is_empty.ensures ∙ c.if-not-is_empty.false))
