use Rattle.statement_parse.proofs.Forms.{names_kept}
use Rattle.statement_parse.proofs.laws.few_new_names.Goals as goal

pub returns : goal.returns
returns c = names_kept c.few_new_words.ensures
