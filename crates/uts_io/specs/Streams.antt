-- What a source has left, what a sink has taken, and counts of faults.
use Rattle.std.specs.Prelude.{◌≡◌, ◌⊎◌, ◌-◌, ◌^◌, ◌<◌, ◌≤◌, ℕ, List, [], ◌++◌, Option, None, Some, IfSome, refl}
use Rattle.std.proofs.Common.{arith, sym, ◌∙◌, ap, append_assoc, append-nil, inl, inr}

-- A count of faults rose, or stands at the greatest u64, where a count stands still.
abbrev pub Rose : ℕ → ℕ → Type 0
Rose before now = (before < now) ⊎ (2 ^ 64 - 1 ≤ now)

-- The front was taken from what was left, where that is told.
abbrev pub TakesFront : Option (List ℕ) → List ℕ → Option (List ℕ) → Type 0
TakesFront None front after = after ≡ None
TakesFront (Some before) front after = (rest : List ℕ) × (before ≡ front ++ rest) × (after ≡ Some rest)

-- nothing is left, where that is told
abbrev pub IsAtEnd : Option (List ℕ) → Type 0
IsAtEnd left = IfSome left (λ bytes. bytes ≡ [])

-- What a sink has taken once it grew by these bytes, where that is told: `after` is the sink's own rule.
abbrev pub grown : (List ℕ → List ℕ → List ℕ) → Option (List ℕ) → List ℕ → Option (List ℕ)
grown after None bytes = None
grown after (Some taken) bytes = Some (after taken bytes)

-- a sink grew by a prefix of these bytes
pub record GrewByPrefix (after : List ℕ → List ℕ → List ℕ) (old new : Option (List ℕ)) (bytes : List ℕ) : Type 0 where
  pub front : List ℕ
  pub rest : List ℕ
  pub splits : bytes ≡ front ++ rest
  pub grew : new ≡ grown after old front

-- no bytes change nothing
abbrev pub NoneChangeNothing : (List ℕ → List ℕ → List ℕ) → Type 0
NoneChangeNothing after = (t : List ℕ) → after t [] ≡ t

-- bytes in two pieces are those bytes in one
abbrev pub PiecesJoin : (List ℕ → List ℕ → List ℕ) → Type 0
PiecesJoin after = (t a b : List ℕ) → after (after t a) b ≡ after t (a ++ b)

-- a count that rose and does not fall afterwards rose over the whole
pub Rose-later : (before now later : ℕ) → Rose before now → now ≤ later → Rose before later
Rose-later before now later rose le = elim rose [ inl lt ↦ inl (omega arith) | inr top ↦ inr (omega arith) ]

-- a count that does not fall and rises afterwards rose over the whole
pub Rose-earlier : (earlier before now : ℕ) → earlier ≤ before → Rose before now → Rose earlier now
Rose-earlier earlier before now le rose = elim rose [ inl lt ↦ inl (omega arith) | inr top ↦ inr (omega arith) ]

-- what is left is unchanged where nothing is taken
pub TakesFront-nil : (left : Option (List ℕ)) → TakesFront left [] left
TakesFront-nil None = refl
TakesFront-nil (Some before) = (before, refl, refl)

-- what is taken in two parts is taken as one
pub TakesFront-append : (before mid after : Option (List ℕ)) (a b : List ℕ) →
    TakesFront before a mid → TakesFront mid b after → TakesFront before (a ++ b) after
TakesFront-append None None after a b first then = then
TakesFront-append None (Some left) after a b first then = cc
TakesFront-append (Some bytes) None after a b first then = cc
TakesFront-append (Some bytes) (Some left) after a b (one, splits, tells) (two, splits_then, tells_then) =
    (two, cc (append_assoc a b two), tells_then)

-- what is taken to the end is all that was left
pub takes_all : (before front : List ℕ) (after : Option (List ℕ)) →
    TakesFront (Some before) front after → IsAtEnd after → before ≡ front
takes_all before front None (rest, splits, tells) ends = cc
takes_all before front (Some left) (rest, splits, tells) ends = cc (append-nil front)

-- a sink that grew by nothing has taken what it had
pub grown-nil : (after : List ℕ → List ℕ → List ℕ) (old : Option (List ℕ)) →
    NoneChangeNothing after → grown after old [] ≡ old
grown-nil after None law = refl
grown-nil after (Some taken) law = ap Some (law taken)

-- a sink that grew by one piece and then by another grew by both
pub grown-grown : (after : List ℕ → List ℕ → List ℕ) (old : Option (List ℕ)) (a b : List ℕ) →
    PiecesJoin after → grown after (grown after old a) b ≡ grown after old (a ++ b)
grown-grown after None a b law = refl
grown-grown after (Some taken) a b law = ap Some (law taken a b)

-- a sink that grew by all of one piece and then by all of another grew by both
pub grew_both : (after : List ℕ → List ℕ → List ℕ) (old mid new : Option (List ℕ)) (a b : List ℕ) →
    PiecesJoin after → mid ≡ grown after old a → new ≡ grown after mid b → new ≡ grown after old (a ++ b)
grew_both after old mid new a b law first second =
    second ∙ ap (λ x. grown after x b) first ∙ grown-grown after old a b law

-- a sink that has taken what it had grew by a prefix of any bytes
pub prefix_of_nothing : (after : List ℕ → List ℕ → List ℕ) (old : Option (List ℕ)) (bytes : List ℕ) →
    NoneChangeNothing after → GrewByPrefix after old old bytes
prefix_of_nothing after old bytes law =
    record { front = []; rest = bytes; splits = refl; grew = sym (grown-nil after old law) }

-- a sink that grew by all bytes grew by a prefix of them
pub prefix_of_all : (after : List ℕ → List ℕ → List ℕ) (old new : Option (List ℕ)) (bytes : List ℕ) →
    new ≡ grown after old bytes → GrewByPrefix after old new bytes
prefix_of_all after old new bytes all =
    record { front = bytes; rest = []; splits = sym (append-nil bytes); grew = all }

-- a prefix of some bytes is a prefix of those and more
pub prefix_of_more : {after : List ℕ → List ℕ → List ℕ} {old new : Option (List ℕ)} {a : List ℕ} (b : List ℕ) →
    GrewByPrefix after old new a → GrewByPrefix after old new (a ++ b)
prefix_of_more b grew = record {
  front = grew.front;
  rest = grew.rest ++ b;
  splits = ap (λ x. x ++ b) grew.splits ∙ append_assoc grew.front grew.rest b;
  grew = grew.grew;
}

-- all of some bytes and a prefix of more are a prefix of both
pub prefix_after : {after : List ℕ → List ℕ → List ℕ} {mid new : Option (List ℕ)} {b : List ℕ}
    (old : Option (List ℕ)) (a : List ℕ) →
    PiecesJoin after → mid ≡ grown after old a → GrewByPrefix after mid new b → GrewByPrefix after old new (a ++ b)
prefix_after {after} {mid} {new} {b} old a law all grew = record {
  front = a ++ grew.front;
  rest = grew.rest;
  splits = ap (λ x. a ++ x) grew.splits ∙ sym (append_assoc a grew.front grew.rest);
  grew = grew.grew ∙ ap (λ x. grown after x grew.front) all ∙ grown-grown after old a grew.front law;
}
