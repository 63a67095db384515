use Rattle.std.proofs.Common.{◌∷◌, [], subst, sym}
use Rattle.std.specs.Prelude.{All}
use Rattle.std.proofs.lemmas.List.Elements.{All-append, All-cons, All-nil}
use Rattle.graph_compiler.specs.Searched.{IsSearched}
use Rattle.graph_compiler.proofs.Searching.{last_is_for}
use Rattle.graph_compiler.proofs.touched.Searches.place_of.Goals as goal

pub returns-clause-searched : goal.returns-clause-searched
returns-clause-searched c =
    let p = c.args.p.now in
    let made = c.args.self.now.made in
    let new = c.in_ok-search.field-0 in
    subst (All (IsSearched p)) (sym c.in_ok-push.ensures.ok) (All-append (IsSearched p) made (new ∷ []) c.requires.searched
    (All-cons (IsSearched p) new [] c.in_ok-search.ensures.searched (All-nil (IsSearched p))))

pub returns-clause-found : goal.returns-clause-found
returns-clause-found c =
    last_is_for c.args.level c.args.reach c.args.centring c.args.self.now.made c.push.new.self c.in_ok-search.field-0 c.len-place.result c.in_ok-search.ensures.of c.in_ok-push.ensures.ok c.len-place.ensures
