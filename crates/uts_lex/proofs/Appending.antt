-- The tokens that a line has up to a place, and one more.
use Rattle.std.proofs.Common.{◌≡◌, ℕ, ◌≤◌, List, [], ◌∷◌, ◌++◌, map, slice_range, Option, Some, None, All, AllPairs, refl, ap, ◌∙◌, sym, append_assoc, subst, arith}
use Rattle.std.specs.Option.{option_map}
use Rattle.std.proofs.lemmas.List.{append-nil, map_push, length-map, get_or-map}
use Rattle.std.proofs.lemmas.List.Quantifiers.{all_pairs_push}
use Rattle.std.proofs.lemmas.List.Elements.{All-push, All-weaker}
use Rattle.uts_lex.specs.declared.token.Token.{Token}
use Rattle.uts_lex.specs.Lexemes.{Lexeme, lexemes_of}
use Rattle.uts_lex.specs.Spelling.{IsLexeme}
use Rattle.uts_lex.proofs.Spellings.{tokens_spelled}
use Rattle.uts_lex.specs.Tokens.{lexeme_at, StandsIn, FillLine, AppendsTokens, IsFirstToken}

-- new is old and behind it the tokens of a line up to a place; the tokens of the rest are still to come
pub record HasTokensTo (text : List ℕ) (from place to line : ℕ) (old new : List Token) : Type 0 where
  pub tokens : List Token
  pub appended : new ≡ old ++ tokens
  pub lexemes : lexemes_of (slice_range text from to) ≡ option_map (λ more. map (lexeme_at text) tokens ++ more) (lexemes_of (slice_range text place to))
  pub places : All (StandsIn line from place) tokens
  pub in_order : AllPairs (λ token next. token.end ≤ next.start) tokens
  pub behind : from ≤ place
  pub inside : place ≤ to
  pub between : (more : List Token) → FillLine text place to more → FillLine text from to (tokens ++ more)

stands_further : (line from place further : ℕ) → place ≤ further → (token : Token) → StandsIn line from place token → StandsIn line from further token
stands_further line from place further less token stands = record {
  number = stands.number;
  from_start = stands.from_start;
  not_empty = stands.not_empty;
  to_end = omega (arith, stands.to_end);
}

put_behind : (front : List Lexeme) (x : Lexeme) (o : Option (List Lexeme)) → option_map (λ more. front ++ more) (option_map (λ more. x ∷ more) o) ≡ option_map (λ more. (front ++ x ∷ []) ++ more) o
put_behind front x None = refl
put_behind front x (Some ts) = ap Some (sym (append_assoc front (x ∷ []) ts))

pub one_token_more : (text : List ℕ) (from place to line : ℕ) (old new : List Token) (token : Token) → HasTokensTo text from place to line old new
    → IsFirstToken text place to line (Some token) → HasTokensTo text from token.end to line old (new ++ token ∷ [])
one_token_more text from place to line old new token has first = record {
  tokens = has.tokens ++ token ∷ [];
  appended = ap (λ ts. ts ++ token ∷ []) has.appended ∙ append_assoc old has.tokens (token ∷ []);
  lexemes =
      has.lexemes ∙ ap (option_map (λ more. map (lexeme_at text) has.tokens ++ more)) first.1
      ∙ put_behind (map (lexeme_at text) has.tokens) (lexeme_at text token) (lexemes_of (slice_range text token.end to))
      ∙ ap (λ front. option_map (λ more. front ++ more) (lexemes_of (slice_range text token.end to))) (sym (map_push (lexeme_at text) has.tokens token));
  places =
      All-push (StandsIn line from token.end) has.tokens token
      (All-weaker (StandsIn line from place) (StandsIn line from token.end) (stands_further line from place token.end (omega (arith, first.0.from_start, first.0.not_empty))) has.tokens has.places)
      (record {
        number = first.0.number;
        from_start = omega (arith, has.behind, first.0.from_start);
        not_empty = first.0.not_empty;
        to_end = omega arith;
      });
  in_order =
      all_pairs_push (λ token next. token.end ≤ next.start) has.tokens token has.in_order
      (λ k d within. omega (arith, (has.places k d within).to_end, first.0.from_start));
  behind = omega (arith, has.behind, first.0.from_start, first.0.not_empty);
  inside = first.0.to_end;
  between = λ more fill. rw (append_assoc has.tokens (token ∷ []) more) (has.between (token ∷ more) (first.2, fill));
}

all_lexemes : (text : List ℕ) (from place to line : ℕ) (old new : List Token) (has : HasTokensTo text from place to line old new)
    → IsFirstToken text place to line None → lexemes_of (slice_range text from to) ≡ Some (map (lexeme_at text) has.tokens)
all_lexemes text from place to line old new has none =
    has.lexemes ∙ ap (option_map (λ more. map (lexeme_at text) has.tokens ++ more)) none.0 ∙ ap Some (append-nil (map (lexeme_at text) has.tokens))

spelled_at : (text : List ℕ) (tokens : List Token) → All IsLexeme (map (lexeme_at text) tokens) → All (λ token. IsLexeme (lexeme_at text token)) tokens
spelled_at text tokens spelled k d within =
    subst IsLexeme (get_or-map (lexeme_at text) tokens k d (lexeme_at text d) within) (spelled k (lexeme_at text d) (rw length-map within))

pub all_tokens : (text : List ℕ) (from place to line : ℕ) (old new : List Token) → HasTokensTo text from place to line old new
    → IsFirstToken text place to line None → AppendsTokens text from to line old new
all_tokens text from place to line old new has none = record {
  tokens = has.tokens;
  appended = has.appended;
  lexemes = all_lexemes text from place to line old new has none;
  spelled = spelled_at text has.tokens (tokens_spelled (slice_range text from to) (map (lexeme_at text) has.tokens) (all_lexemes text from place to line old new has none));
  places = All-weaker (StandsIn line from place) (StandsIn line from to) (stands_further line from place to has.inside) has.tokens has.places;
  in_order = has.in_order;
  between = subst (FillLine text from to) (append-nil has.tokens) (has.between [] none.1);
}
