-- The tokens of a line lie in its text.
use Rattle.std.proofs.Common.{◌≡◌, ◌≤◌, ℕ, List, [], ◌++◌, length, drop, subst, sym, ap, ◌∙◌, arith}
use Rattle.std.specs.Prelude.{All, ◌==◌, not}
use Rattle.std.proofs.lemmas.List.{length-drop}
use Rattle.std.proofs.lemmas.List.Sums.{prefix_len-le-length}
use Rattle.uts_lex.specs.declared.token.Token.{Token}
use Rattle.uts_lex.specs.Lines.{line_feed}
use Rattle.uts_lex.specs.Tokens.{AppendsLine}
use Rattle.kernel_parse.specs.Source.{LiesIn}

pub tokens_of_line : (text : List ℕ) (start line : ℕ) (old new : List Token) → start ≤ length text → old ≡ [] → AppendsLine text start line old new → All (LiesIn text) new
tokens_of_line text start line old new inside empty a = subst (All (LiesIn text)) (sym (a.appended ∙ ap (λ (w : List Token). w ++ a.tokens) empty)) lie
  where
    lie : All (LiesIn text) a.tokens
    lie k d within =
        let stands = a.places k d within in
        let end = prefix_len-le-length (λ (byte : ℕ). not (byte == line_feed)) (drop start text) in
        record {
          ordered = omega (arith, stands.not_empty);
          inside = omega (arith, stands.to_end, end, length-drop start text);
        }
