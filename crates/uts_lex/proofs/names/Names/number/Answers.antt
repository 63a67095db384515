use Rattle.uts_lex.proofs.Numbering.{number_found, number_new, known_word, known_word_at_number, words_with_name, word_at_number, distinct_with_name}
use Rattle.uts_lex.specs.Words.{words_of}
use Rattle.uts_lex.proofs.names.Names.number.Goals as goal

pub returns-in-Some-clause-number : goal.returns-in-Some-clause-number
returns-in-Some-clause-number c =
    let keys = c.self.inside.words.keys in
    let word = c.args.word.now in
    rw (← c.self.view_is) (number_found word keys c.in-Some.place c.in-Some.ensures.index)

pub returns-in-Some-clause-word : goal.returns-in-Some-clause-word
returns-in-Some-clause-word c =
    let keys = c.self.inside.words.keys in
    let word = c.args.word.now in
    rw (← c.self.view_is, number_found word keys c.in-Some.place c.in-Some.ensures.index) (known_word_at_number word keys c.in-Some.ensures.found)

pub returns-in-Some-clause-names : goal.returns-in-Some-clause-names
returns-in-Some-clause-names c =
    let keys = c.self.inside.words.keys in
    let word = c.args.word.now in
    rw (← c.self.view_is) (known_word word keys c.in-Some.ensures.found)

pub invariant_of-self-2 : goal.invariant_of-self-2
invariant_of-self-2 c =
    let keys = c.self.inside.words.keys in
    let word = c.args.word.now in
    rw (c.in_ok-place.ensures.keys, words_with_name word c.in_ok-word.word keys c.in_ok-word.ensures.items) (distinct_with_name (words_of keys) word c.self.invariant)

pub returns-clause-number : goal.returns-clause-number
returns-clause-number c =
    let keys = c.self.inside.words.keys in
    let word = c.args.word.now in
    rw (← c.self.view_is, c.in_ok-place.ensures.index) (number_new word c.in_ok-word.word keys c.in_ok-word.ensures.items)

pub returns-clause-word : goal.returns-clause-word
returns-clause-word c =
    let keys = c.self.inside.words.keys in
    let word = c.args.word.now in
    rw (c.in_ok-place.ensures.keys, words_with_name word c.in_ok-word.word keys c.in_ok-word.ensures.items, c.in_ok-place.ensures.index, number_new word c.in_ok-word.word keys c.in_ok-word.ensures.items)
    (word_at_number (words_of keys) word)

pub returns-clause-names : goal.returns-clause-names
returns-clause-names c =
    let keys = c.self.inside.words.keys in
    let word = c.args.word.now in
    rw (← c.self.view_is, c.in_ok-place.ensures.keys) (words_with_name word c.in_ok-word.word keys c.in_ok-word.ensures.items)

pub returns-clause-distinct : goal.returns-clause-distinct
returns-clause-distinct c =
    let keys = c.self.inside.words.keys in
    let word = c.args.word.now in
    rw (c.in_ok-place.ensures.keys, words_with_name word c.in_ok-word.word keys c.in_ok-word.ensures.items) (distinct_with_name (words_of keys) word c.self.invariant)
