-- The tokens of a line from its front on.
use Rattle.std.proofs.Common.{◌≡◌, ℕ, zero, suc, ◌+◌, ◌-◌, ◌<◌, ◌≤◌, Bool, true, false, cond, List, [], ◌∷◌, length, get_or, take, drop, slice_range, Some, None, refl, ap, ◌∙◌, arith}
use Rattle.std.specs.Prelude.{◌||◌}
use Rattle.std.specs.List.{list_all, prefix_len}
use Rattle.std.specs.Option.{option_map}
use Rattle.std.proofs.lemmas.Grind.{common_steps}
use Rattle.std.proofs.lemmas.List.{length-take-le, drop-take, drop-drop}
use Rattle.std.proofs.lemmas.List.Sums.{prefix_len-le-length, prefix_len_stops}
use Rattle.uts_lex.specs.declared.token.Kind.{Kind}
use Rattle.uts_lex.specs.Tokens.{IsFirstToken}
use Rattle.uts_lex.specs.Lexemes.{lexeme, is_blank, begins_comment, ends_line, front_lexeme, lexemes_behind, lexemes_of}

-- what stands behind some bytes are the tokens of the rest
pub tokens_behind : (bytes : List ℕ) (n : ℕ) → lexemes_behind bytes n ≡ lexemes_of (drop n bytes)
tokens_behind [] zero = refl
tokens_behind [] (suc n) = refl
tokens_behind (b ∷ bs) zero = refl
tokens_behind (b ∷ bs) (suc n) = tokens_behind bs n

at_blank : (b : ℕ) (bs : List ℕ) → is_blank b ≡ true → lexemes_of (b ∷ bs) ≡ lexemes_of bs
at_blank b bs blank = rw blank refl

past_first : (b : ℕ) (bs : List ℕ) (blank : Bool) → is_blank b ≡ blank → lexemes_of bs ≡ lexemes_of (drop (prefix_len is_blank bs) bs)
    → lexemes_of (b ∷ bs) ≡ lexemes_of (drop (cond blank (1 + prefix_len is_blank bs) 0) (b ∷ bs))
past_first b bs true blank more =
    let next : 1 + prefix_len is_blank bs ≡ suc (prefix_len is_blank bs) = omega arith in
    at_blank b bs blank ∙ rw next more
past_first b bs false other more = refl

-- blanks at the front have no token
pub past_blanks : (bytes : List ℕ) → lexemes_of bytes ≡ lexemes_of (drop (prefix_len is_blank bytes) bytes)
past_blanks [] = refl
past_blanks (b ∷ bs) = past_first b bs (is_blank b) refl (past_blanks bs)

-- nor has a comment
pub comment : (bytes : List ℕ) (n : ℕ) → n < length bytes → get_or bytes n 0 ≡ 35 → lexemes_of (drop n bytes) ≡ Some []
comment [] n inside is = absurd (omega arith)
comment (b ∷ bs) zero inside is = grind (arith, common_steps)
comment (b ∷ bs) (suc n) inside is = comment bs n (omega arith) is

pub nothing_left : (bytes : List ℕ) → lexemes_of (drop (length bytes) bytes) ≡ Some []
nothing_left [] = refl
nothing_left (b ∷ bs) = nothing_left bs

-- the blanks at the front
blanks_at : (b : ℕ) (bs : List ℕ) (blank : Bool) → is_blank b ≡ blank → list_all is_blank (take (prefix_len is_blank bs) bs) ≡ true
    → list_all is_blank (take (cond blank (1 + prefix_len is_blank bs) 0) (b ∷ bs)) ≡ true
blanks_at b bs true blank more =
    let next : 1 + prefix_len is_blank bs ≡ suc (prefix_len is_blank bs) = omega arith in
    rw (next, blank) more
blanks_at b bs false other more = refl

pub front_blanks : (bytes : List ℕ) → list_all is_blank (take (prefix_len is_blank bytes) bytes) ≡ true
front_blanks [] = refl
front_blanks (b ∷ bs) = blanks_at b bs (is_blank b) refl (front_blanks bs)

or_true : (t : Bool) → (t || true) ≡ true
or_true true = refl
or_true false = refl

-- a line of blanks, and one whose first byte behind blanks begins a comment, have nothing else
ends_at : (b : ℕ) (bs : List ℕ) (blank : Bool) → is_blank b ≡ blank → (prefix_len is_blank bs ≡ length bs → ends_line bs ≡ true)
    → cond blank (1 + prefix_len is_blank bs) 0 ≡ length (b ∷ bs) → ends_line (b ∷ bs) ≡ true
ends_at b bs true blank more all = let rest : ends_line bs ≡ true = more (omega arith) in rw (blank, rest) (or_true (begins_comment b))
ends_at b bs false other more all = absurd (omega arith)

pub blanks_end : (bytes : List ℕ) → prefix_len is_blank bytes ≡ length bytes → ends_line bytes ≡ true
blanks_end [] all = refl
blanks_end (b ∷ bs) all = ends_at b bs (is_blank b) refl (blanks_end bs) all

comment_at : (b : ℕ) (bs : List ℕ) (blank : Bool) → is_blank b ≡ blank
    → (prefix_len is_blank bs < length bs → get_or bs (prefix_len is_blank bs) 0 ≡ 35 → ends_line bs ≡ true)
    → cond blank (1 + prefix_len is_blank bs) 0 < length (b ∷ bs) → get_or (b ∷ bs) (cond blank (1 + prefix_len is_blank bs) 0) 0 ≡ 35 → ends_line (b ∷ bs) ≡ true
comment_at b bs true blank more inside is =
    let next : 1 + prefix_len is_blank bs ≡ suc (prefix_len is_blank bs) = omega arith in
    let rest : ends_line bs ≡ true = more (omega arith) (let at = rw next at is in at) in
    rw (blank, rest) (or_true (begins_comment b))
comment_at b bs false other more inside is = rw is refl

pub comment_ends : (bytes : List ℕ) → prefix_len is_blank bytes < length bytes → get_or bytes (prefix_len is_blank bytes) 0 ≡ 35 → ends_line bytes ≡ true
comment_ends [] inside is = absurd (omega arith)
comment_ends (b ∷ bs) inside is = comment_at b bs (is_blank b) refl (comment_ends bs) inside is

pub ruleset gaps = (prefix_len-le-length, prefix_len_stops, past_blanks, comment, nothing_left, front_blanks, blanks_end, comment_ends)

-- the token at the front of a line that begins with neither a blank nor a comment
pub front_first : (bytes : List ℕ) (kind : Kind) (n : ℕ) → 0 < n → n ≤ length bytes → is_blank (get_or bytes 0 0) ≡ false → begins_comment (get_or bytes 0 0) ≡ false
    → front_lexeme bytes ≡ Some (lexeme kind (take n bytes)) → lexemes_of bytes ≡ option_map (λ more. lexeme kind (take n bytes) ∷ more) (lexemes_of (drop n bytes))
front_first [] kind n some inside blank hash front = absurd (omega arith)
front_first (b ∷ bs) kind zero some inside blank hash front = absurd (omega arith)
front_first (b ∷ bs) kind (suc n) some inside blank hash front =
    let rest : suc n - 1 ≡ n = omega arith in
    rw (blank, hash, front, length-take-le n bs (omega arith), rest, tokens_behind bs n) refl

pub no_front : (bytes : List ℕ) → 0 < length bytes → is_blank (get_or bytes 0 0) ≡ false → begins_comment (get_or bytes 0 0) ≡ false
    → front_lexeme bytes ≡ None → lexemes_of bytes ≡ None
no_front [] some blank hash front = absurd (omega arith)
no_front (b ∷ bs) some blank hash front = rw (blank, hash, front) refl

-- the bytes of a slice, cut again
cut_again : (text : List ℕ) (from to gap : ℕ) → from + gap ≤ to → drop gap (slice_range text from to) ≡ slice_range text (from + gap) to
cut_again text from to gap inside =
    let split : to - from ≡ gap + (to - (from + gap)) = omega arith in
    rw split (drop-take gap (to - (from + gap)) (drop from text) ∙ ap (take (to - (from + gap))) (drop-drop gap from text))

front_of_slice : (text : List ℕ) (from to n : ℕ) → from + n ≤ to → take n (slice_range text from to) ≡ slice_range text from (from + n)
front_of_slice text from to n inside = grind (arith, common_steps)

length_of_slice : (text : List ℕ) (from to : ℕ) → from ≤ to → to ≤ length text → length (slice_range text from to) ≡ to - from
length_of_slice text from to ordered inside = grind (arith, common_steps)

-- the first token of a part of a line, behind a gap
pub token_behind_gap : (text rest : List ℕ) (from to gap n line : ℕ) (kind : Kind) → from ≤ to → to ≤ length text → gap ≤ length (slice_range text from to)
    → rest ≡ drop gap (slice_range text from to) → lexemes_of (slice_range text from to) ≡ lexemes_of rest
    → is_blank (get_or rest 0 0) ≡ false → begins_comment (get_or rest 0 0) ≡ false
    → front_lexeme rest ≡ Some (lexeme kind (take n rest)) → 0 < n → n ≤ length rest
    → list_all is_blank (take gap (slice_range text from to)) ≡ true
    → IsFirstToken text from to line (Some (record { kind = kind; start = from + gap; end = from + gap + n; line = line }))
token_behind_gap text rest from to gap n line kind ordered inside in_slice rest_is same blank hash front some fits blanks =
    let size = length_of_slice text from to ordered inside in
    let cut = rest_is ∙ cut_again text from to gap (omega arith) in
    let left : length rest ≡ to - (from + gap) = ap length cut ∙ length_of_slice text (from + gap) to (omega arith) inside in
    let token_is : take n rest ≡ slice_range text (from + gap) (from + gap + n) = ap (take n) cut ∙ front_of_slice text (from + gap) to n (omega arith) in
    let more_is : drop n rest ≡ slice_range text (from + gap + n) to = ap (drop n) cut ∙ cut_again text (from + gap) to n (omega arith) in
    let first = front_first rest kind n some fits blank hash front in (
      record { number = refl; from_start = omega arith; not_empty = omega arith; to_end = omega arith },
      same ∙ first ∙ (λ i. option_map (λ more. lexeme kind (token_is i) ∷ more) (lexemes_of (more_is i))),
      rw (← front_of_slice text from to gap (omega arith)) blanks,
    )
