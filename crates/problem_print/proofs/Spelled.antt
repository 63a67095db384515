-- The lines of a printed text, one after another.
use Rattle.std.proofs.Common.{◌≡◌, ℕ, zero, suc, ◌+◌, ◌-◌, ◌<◌, ◌==◌, not, true, List, [], ◌∷◌, ◌++◌, length, take, drop, map, replicate, Option, Some, None, refl, ap, sym, ◌∙◌, subst, append_assoc, arith}
use Rattle.std.specs.Prelude.{All, slice_index}
use Rattle.std.specs.List.{flat_map, position_or_len}
use Rattle.std.specs.List.Sorted.{IsStrictlyIncreasing}
use Rattle.std.proofs.Math.Seq.{drop-append_seam, take-append_seam, take-length}
use Rattle.std.proofs.lemmas.Bool.{and_parts}
use Rattle.std.proofs.lemmas.List.{append-nil, length-append}
use Rattle.std.proofs.lemmas.List.Elements.{All-tail}
use Rattle.uts_lex.specs.Lexemes.{Lexeme, lexemes_of}
use Rattle.uts_lex.specs.Lines.{line_end, after_line, line_at}
use Rattle.kernel_parse.specs.Grammar.{Words}
use Rattle.problem_types.specs.declared.problem.Problem.{Problem}
use Rattle.statement_parse.specs.Grammar.{SpellsStatement}
use Rattle.statement_parse.specs.Kinds.{kind_of}
use Rattle.statement_parse.specs.declared.statement.Statement.{Statement}
use Rattle.problem_file.specs.Statements.{Placed, at, statements_of}
use Rattle.problem_file.specs.Order.{next_place, place_behind}
use Rattle.problem_file.specs.Grammar.{BeginsWith, nothing, empty_line, statement, Spells}
use Rattle.problem_file.specs.Laws.{WholeProblemsAreInOrder}
use Rattle.problem_file.specs.declared.order.Place.{Place}
use Rattle.problem_file.specs.declared.order.Place.TheVariants as place
use Rattle.problem_printable.specs.Numbering.{statement_names, known_behind}
use Rattle.problem_printable.specs.Printable.{IsSayable, AreNames, IsPrintable}
use Rattle.problem_print.specs.Printed.{statement_text, lines_text, printed_text}
use Rattle.problem_print.proofs.Phrases.{TokensAreReadAgain, is_one_line, Reads}
use Rattle.problem_print.proofs.Counting.{between, none_behind}
use Rattle.problem_printable.specs.Known.{known_grows}
use Rattle.problem_print.proofs.Sayings.{said_statement}

-- ---- one line of a text

-- the bytes stand on the line behind the front
record Line (text front bytes : List ℕ) : Type 0 where
  bytes_at : line_at text (length front) ≡ bytes
  behind : after_line text (length front) ≡ length front + length bytes + 1
  inside : length front < length text

feed_place : (bytes rest : List ℕ) → is_one_line bytes ≡ true → position_or_len (λ byte. byte == 10) (bytes ++ 10 ∷ rest) ≡ length bytes
feed_place [] rest e = refl
feed_place (byte ∷ bytes) rest e =
    let both = and_parts (not (byte == 10)) (is_one_line bytes) e in
    let more = feed_place bytes rest both.1 in
    rw both.0 (omega (arith, more))

line_of : (front bytes rest : List ℕ) → is_one_line bytes ≡ true → Line (front ++ (bytes ++ 10 ∷ rest)) front bytes
line_of front bytes rest e =
    let text = front ++ (bytes ++ 10 ∷ rest) in
    let dropped : drop (length front) text ≡ bytes ++ 10 ∷ rest = drop-append_seam front (bytes ++ 10 ∷ rest) in
    let stop : line_end text (length front) ≡ length front + length bytes =
    ap (λ (behind : List ℕ). length front + position_or_len (λ byte. byte == 10) behind) dropped ∙ ap (λ (n : ℕ). length front + n) (feed_place bytes rest e) in
    let size : length text ≡ length front + (length bytes + suc (length rest)) =
    length-append front (bytes ++ 10 ∷ rest) ∙ ap (λ (n : ℕ). length front + n) (length-append bytes (10 ∷ rest)) in
    let span : line_end text (length front) - length front ≡ length bytes = omega (arith, stop) in
    record {
      bytes_at = ap (λ (n : ℕ). take n (drop (length front) text)) span ∙ ap (take (length bytes)) dropped ∙ take-append_seam bytes (10 ∷ rest);
      behind = omega (arith, stop, size);
      inside = omega (arith, size);
    }

module _ (text : List ℕ) where
  line : (front bytes rest : List ℕ) → text ≡ front ++ (bytes ++ 10 ∷ rest) → is_one_line bytes ≡ true → Line text front bytes
  line front bytes rest is e = subst (λ (t : List ℕ). Line t front bytes) (sym is) (line_of front bytes rest e)

  -- the place behind the line
  next_front : (front bytes rest : List ℕ) → Line text front bytes → after_line text (length front) ≡ length (front ++ (bytes ++ 10 ∷ []))
  next_front front bytes rest l =
      l.behind ∙ (let size = length-append front (bytes ++ 10 ∷ []) in let size' = length-append bytes (10 ∷ []) in omega (arith, size, size'))

  moved : (front bytes rest : List ℕ) → text ≡ front ++ (bytes ++ 10 ∷ rest) → text ≡ (front ++ (bytes ++ 10 ∷ [])) ++ rest
  moved front bytes rest is = is ∙ simp append_assoc

  one_empty : (front rest : List ℕ) (lines : ℕ) (before : Place) (ss : List Placed) (names : Words) → text ≡ front ++ (10 ∷ rest)
      → BeginsWith text (length front) lines before ss names → BeginsWith text (length (front ++ 10 ∷ [])) (suc lines) before ss names
  one_empty front rest lines before ss names is b =
      let l = line front [] rest is refl in
      subst (λ (to : ℕ). BeginsWith text to (suc lines) before ss names) (next_front front [] rest l)
      (empty_line (length front) lines before ss names b l.inside (ap lexemes_of l.bytes_at))

  some_empty : (m : ℕ) (front rest : List ℕ) (lines : ℕ) (before : Place) (ss : List Placed) (names : Words) → text ≡ front ++ (replicate m 10 ++ rest)
      → BeginsWith text (length front) lines before ss names → BeginsWith text (length (front ++ replicate m 10)) (lines + m) before ss names
  some_empty zero front rest lines before ss names is b =
      let same : lines ≡ lines + 0 = omega arith in
      subst (λ (n : ℕ). BeginsWith text (length (front ++ [])) n before ss names) same
      (subst (λ (f : List ℕ). BeginsWith text (length f) lines before ss names) (sym (append-nil front)) b)
  some_empty (suc m) front rest lines before ss names is b =
      let first = one_empty front (replicate m 10 ++ rest) lines before ss names is b in
      let more : text ≡ (front ++ 10 ∷ []) ++ (replicate m 10 ++ rest) = moved front [] (replicate m 10 ++ rest) is in
      let all = some_empty m (front ++ 10 ∷ []) rest (suc lines) before ss names more first in
      let same : (front ++ 10 ∷ []) ++ replicate m 10 ≡ front ++ (10 ∷ replicate m 10) = append_assoc front (10 ∷ []) (replicate m 10) in
      let count : suc lines + m ≡ lines + suc m = omega arith in
      subst (λ (n : ℕ). BeginsWith text (length (front ++ (10 ∷ replicate m 10))) n before ss names) count
      (subst (λ (f : List ℕ). BeginsWith text (length f) (suc lines + m) before ss names) same all)

  one_statement : (front bytes rest : List ℕ) (lines : ℕ) (before behind : Place) (ss : List Placed) (names after : Words) (ts : List Lexeme) (s : Statement)
      → text ≡ front ++ (bytes ++ 10 ∷ rest) → Reads bytes ts → BeginsWith text (length front) lines before ss names
      → SpellsStatement ts names s after → next_place before (kind_of s) ≡ Some behind
      → BeginsWith text (length (front ++ (bytes ++ 10 ∷ []))) (suc lines) behind (ss ++ at (suc lines) s ∷ []) after
  one_statement front bytes rest lines before behind ss names after ts s is r b spelled next =
      let l = line front bytes rest is r.one_line in
      let read : lexemes_of bytes ≡ Some ts =
      ap lexemes_of (sym (append-nil bytes)) ∙ r.again [] [] refl refl ∙ ap (λ (us : List Lexeme). Some us) (append-nil ts) in
      subst (λ (to : ℕ). BeginsWith text to (suc lines) behind (ss ++ at (suc lines) s ∷ []) after) (next_front front bytes rest l)
      (statement (length front) lines before behind ss names after ts s b l.inside (ap lexemes_of l.bytes_at ∙ read) spelled next)

-- ---- all lines

nowhere : (ss : List Placed) (to : Place) → place_behind None ss ≡ Some to → ⊥
nowhere [] to e = cc
nowhere (s ∷ ss) to e = nowhere ss to e

rises_on : (n : ℕ) (ns : List ℕ) → IsStrictlyIncreasing (n ∷ ns) → IsStrictlyIncreasing ns
rises_on n ns up i within =
    let same : suc i + 1 ≡ suc (i + 1) = omega arith in
    subst (λ (k : ℕ). slice_index (n ∷ ns) (suc i) < slice_index (n ∷ ns) k) same (up (suc i) (omega arith))

module _ (law : TokensAreReadAgain) (names : Words) (are : AreNames names) (text : List ℕ) where
  abbrev Whole : List Placed → Type 0
  Whole ss = (lines : ℕ) × BeginsWith text (length text) lines place.End ss names

  -- the statements that are left, behind some lines of the text
  abbrev Left : List Placed → Type 0
  Left ss = (front : List ℕ) (last k : ℕ) (before : Place) (done : List Placed) → text ≡ front ++ lines_text names last ss
      → BeginsWith text (length front) last before done (take k names)
      → place_behind (Some before) ss ≡ Some place.End → IsStrictlyIncreasing (last ∷ map (λ s. s.line) ss)
      → known_behind k (flat_map (λ s. statement_names s.statement) ss) ≡ Some (length names)
      → All (λ s. IsSayable (length names) s.statement) ss → Whole (done ++ ss)

  none_left : Left []
  none_left front last k before done is b next up known sayable =
      let at_end : before ≡ place.End = cc in
      let all : k ≡ length names = none_behind k (length names) known in
      let words : take k names ≡ names = ap (λ (n : ℕ). take n names) all ∙ take-length names in
      let size : length front ≡ length text = ap length (sym (is ∙ append-nil front)) in (
        last,
        subst (λ (ss : List Placed). BeginsWith text (length text) last place.End ss names) (sym (append-nil done))
            (subst (λ (ws : Words). BeginsWith text (length text) last place.End done ws) words
            (subst (λ (p : Place). BeginsWith text (length text) last p done (take k names)) at_end
            (subst (λ (n : ℕ). BeginsWith text n last before done (take k names)) size b))),
      )

  one_left : (s : Placed) (ss : List Placed) → Left ss → Left (s ∷ ss)
  one_left s ss more front last k before done is b next up known sayable = by (next_place before (kind_of s.statement)) refl next
    where
      by : (r : Option Place) → next_place before (kind_of s.statement) ≡ r → place_behind r ss ≡ Some place.End → Whole (done ++ s ∷ ss)
      by None place_is next = absurd (nowhere ss place.End next)
      by (Some behind) place_is next =
          let above : last < s.line = up 0 (omega arith) in
          let empty = s.line - suc last in
          let parts = between k (length names) (statement_names s.statement) (flat_map (λ (t : Placed). statement_names t.statement) ss) known in
          let m = parts.middle in
          let within = known_grows m (flat_map (λ (t : Placed). statement_names t.statement) ss) (length names) parts.second in
          let sayable_here : IsSayable (length names) s.statement = sayable 0 s (omega arith) in
          let t = said_statement law names are k m s.statement sayable_here parts.first within in
          let bytes = statement_text names s.statement in
          let rest = lines_text names s.line ss in
          let front1 = front ++ replicate empty 10 in
          let here : text ≡ front1 ++ (bytes ++ 10 ∷ rest) = is ∙ sym (append_assoc front (replicate empty 10) (bytes ++ 10 ∷ rest)) in
          let begun = some_empty text empty front (bytes ++ 10 ∷ rest) last before done (take k names) is b in
          let put = one_statement text front1 bytes rest (last + empty) before behind done (take k names) (take m names) t.tokens s.statement here t.reads begun t.spelled place_is in
          let number : suc (last + empty) ≡ s.line = omega (arith, above) in
          let placed : BeginsWith text (length (front1 ++ (bytes ++ 10 ∷ []))) s.line behind (done ++ s ∷ []) (take m names) =
          subst (λ (n : ℕ). BeginsWith text (length (front1 ++ (bytes ++ 10 ∷ []))) n behind (done ++ at n s.statement ∷ []) (take m names)) number put in
          let whole = more (front1 ++ (bytes ++ 10 ∷ [])) s.line m behind (done ++ s ∷ []) (moved text front1 bytes rest here) placed next
          (rises_on last (s.line ∷ map (λ (t : Placed). t.line) ss) up) parts.second (All-tail (λ (t : Placed). IsSayable (length names) t.statement) s ss sayable) in
          subst Whole (append_assoc done (s ∷ []) ss) whole

  all_left : (ss : List Placed) → Left ss
  all_left [] = none_left
  all_left (s ∷ ss) = one_left s ss (all_left ss)

-- ---- the whole text

pub printed_is_read : TokensAreReadAgain → WholeProblemsAreInOrder → (p : Problem) → IsPrintable p → Spells (printed_text p) p
unfolding printed_text
printed_is_read law order p h =
    let text = printed_text p in
    let all = all_left law p.names h.names text (statements_of p) [] 0 0 place.Start [] refl nothing (order p h.whole) h.lines h.numbered h.statements in
    record { lines = all.0; spelled = all.1; whole = h.whole }
