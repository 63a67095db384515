-- What stands in a warehouse at its beginning, and after a field or a number was put into it.
use Rattle.std.proofs.Common.{if◌then◌else◌, ◌≡◌, ◌≢◌, ◌∙◌, ◌<◌, ◌+◌, ◌*◌, ℕ, ℤ, pos, List, length, map, replicate, Bool, true, false, Option, Some, None, refl, ap, sym, inl, inr}
use Rattle.std.specs.Prelude.{◌&&◌, ◌==◌, IsTrue, AllPairs, Contains, nat_lt, slice_index_or, slice_set}
use Rattle.std.proofs.Math.Path.{fun_ext}
use Rattle.std.proofs.lemmas.Bool.{cases_Bool, cases_eq, and_parts, and_from, lt-ltb, ltb-true, eqb-true, eq-eqb, ne_eqb}
use Rattle.std.proofs.lemmas.List.{length-set, get_or-set_same, get_or-set_other}
use Rattle.std.proofs.lemmas.Nat.{same_from_place}
use Rattle.std.proofs.lemmas.Option.{same_Some}
use Rattle.uts_geom.specs.declared.index.Index.{Index}
use Rattle.problem_types.specs.Lists.{centring_of}
use Rattle.problem_types.specs.Regions.{is_in_space, indexes_of}
use Rattle.problem_types.specs.declared.problem.Problem.{Problem}
use Rattle.uts_model.specs.WholeField.{State, nothing, unset}
use Rattle.whole_fields.specs.Stored.{IsWarehouseOf, state_of, stored_field, field_place, number_of_field, blank_of, with_field, with_reduction}
use Rattle.whole_fields.specs.declared.warehouse.Warehouse.{Warehouse}
use Rattle.whole_fields.proofs.Among.{number_by_function}
use Rattle.whole_fields.proofs.Lists.{item_of_replicate}

same_states : (a b : State) → a.field ≡ b.field → a.reduction ≡ b.reduction → a ≡ b
same_states a b field reduction = λ i. record { field = field i; reduction = reduction i }

-- the problem has the name, the material and the level
abbrev has_field : Problem → (name material level : ℕ) → Bool
has_field p name material level = nat_lt name (length p.names) && (nat_lt material p.materials.value && nat_lt level (length p.levels))

abbrev HasField : Problem → (name material level : ℕ) → Type 0
HasField p name material level = (name < length p.names) × (material < p.materials.value) × (level < length p.levels)

parts_of : (p : Problem) (name material level : ℕ) → has_field p name material level ≡ true → HasField p name material level
parts_of p name material level has =
    let outer = and_parts _ _ has in
    let inner = and_parts _ _ outer.1 in
    (ltb-true _ _ outer.0, ltb-true _ _ inner.0, ltb-true _ _ inner.1)

from_parts : (p : Problem) (name material level : ℕ) → HasField p name material level → has_field p name material level ≡ true
from_parts p name material level has =
    and_from _ _ (lt-ltb _ _ has.0) (and_from _ _ (lt-ltb _ _ has.1) (lt-ltb _ _ has.2))

stored_at : (p : Problem) (w : Warehouse) (name material level : ℕ) → has_field p name material level ≡ true →
    stored_field p w name material level ≡ slice_index_or w.fields (field_place p name material level) None
stored_at p w name material level has = rw has refl

stored_none : (p : Problem) (w : Warehouse) (name material level : ℕ) → has_field p name material level ≡ false → stored_field p w name material level ≡ None
stored_none p w name material level none = rw none refl

-- two fields of one place are one
same_place : (p : Problem) (name material level n m l : ℕ) → HasField p name material level → HasField p n m l →
    field_place p n m l ≡ field_place p name material level → (n ≡ name) × (m ≡ material) × (l ≡ level)
same_place p name material level n m l has other place =
    let materials = p.materials.value in
    let outer = same_from_place (n * materials + m) l (name * materials + material) level (length p.levels) other.2 has.2 place in
    let inner = same_from_place n m name material materials other.1 has.1 outer.0 in
    (inner.0, inner.1, outer.1)

-- the n, m and l of a test are a field's name, material and level
abbrev is_field : (name material level n m l : ℕ) → Bool
is_field name material level n m l = (n == name) && ((m == material) && (l == level))

same_field : (name material level n m l : ℕ) → is_field name material level n m l ≡ true → (n ≡ name) × (m ≡ material) × (l ≡ level)
same_field name material level n m l same =
    let outer = and_parts _ _ same in
    let inner = and_parts _ _ outer.1 in
    (eqb-true _ _ outer.0, eqb-true _ _ inner.0, eqb-true _ _ inner.1)

-- outside its index space a field has the blank number
outside_is_blank : (p : Problem) (w : Warehouse) (name level : ℕ) (stored : Option (List ℤ)) (i : Index) →
    is_in_space p level (centring_of p name) i ≡ false → number_of_field p w name level stored i ≡ blank_of p w name
outside_is_blank p w name level None i outside = refl
outside_is_blank p w name level (Some numbers) i outside = rw outside refl

module _ (p : Problem) (w : Warehouse) (fields : List (Option (List ℤ))) (name material level : ℕ) (numbers : List ℤ)
    (has : HasField p name material level) (within : field_place p name material level < length w.fields)
    (put : fields ≡ slice_set w.fields (field_place p name material level) (Some numbers)) where
  abbrev after : Warehouse
  after = record { is_before = w.is_before; fields = fields; reductions = w.reductions }

  stored_new : stored_field p after name material level ≡ Some numbers
  stored_new =
      let place = field_place p name material level in
      stored_at p after name material level (from_parts p name material level has)
      ∙ ap (λ (stored : List (Option (List ℤ))). slice_index_or stored place None) put
      ∙ get_or-set_same w.fields place (Some numbers) None within

  stored_other : (n m l : ℕ) → is_field name material level n m l ≡ false → stored_field p after n m l ≡ stored_field p w n m l
  stored_other n m l other =
      let place = field_place p name material level in
      elim (cases_Bool (has_field p n m l)) [
        | inl there ↦
            stored_at p after n m l there
            ∙ ap (λ (stored : List (Option (List ℤ))). slice_index_or stored (field_place p n m l) None) put
            ∙ get_or-set_other w.fields place (field_place p n m l) (Some numbers) None (λ at.
            let same = same_place p name material level n m l has (parts_of p n m l there) at in
            let test : is_field name material level n m l ≡ true =
            and_from _ _ (eq-eqb n name same.0) (and_from _ _ (eq-eqb m material same.1) (eq-eqb l level same.2)) in
            absurd cc)
            ∙ sym (stored_at p w n m l there)
        | inr none ↦ stored_none p after n m l none ∙ sym (stored_none p w n m l none)
      ]

  pub warehouse_after : IsWarehouseOf p w → length numbers ≡ length (indexes_of p level (centring_of p name)) → IsWarehouseOf p after
  warehouse_after of full = record {
    fields = ap length put ∙ length-set w.fields (field_place p name material level) (Some numbers) ∙ of.fields;
    reductions = of.reductions;
    full = λ n m l. elim (cases_Bool (is_field name material level n m l)) [
      | inl test ↦
          let same = same_field name material level n m l test in
          λ stored at.
          rw (same.0, same.2) (ap length (same_Some stored numbers (sym (rw (same.0, same.1, same.2) at at) ∙ stored_new)) ∙ full)
      | inr other ↦ λ stored at. of.full n m l stored (sym (stored_other n m l other) ∙ at)
    ];
  }

  module _ (holds : (i : Index) → IsTrue (is_in_space p level (centring_of p name) i) → Contains (indexes_of p level (centring_of p name)) i)
      (once : AllPairs ◌≢◌ (indexes_of p level (centring_of p name)))
      (f : Index → ℤ) (given : numbers ≡ map f (indexes_of p level (centring_of p name))) where
    number_new : (i : Index) → number_of_field p after name level (stored_field p after name material level) i
        ≡ (if is_in_space p level (centring_of p name) i then f i else number_of_field p w name level (stored_field p w name material level) i)
    number_new i =
        elim (cases_Bool (is_in_space p level (centring_of p name) i)) [
          | inl inside ↦
              rw (stored_new, inside) (number_by_function (indexes_of p level (centring_of p name)) once f numbers i given (holds i inside))
          | inr outside ↦
              outside_is_blank p after name level (stored_field p after name material level) i outside
              ∙ rw outside (sym (outside_is_blank p w name level (stored_field p w name material level) i outside))
        ]

    number_after : (n m l : ℕ) (i : Index) → number_of_field p after n l (stored_field p after n m l) i
        ≡ (if is_field name material level n m l && is_in_space p level (centring_of p name) i then f i else number_of_field p w n l (stored_field p w n m l) i)
    number_after n m l i =
        elim (cases_Bool (is_field name material level n m l)) [
          | inl test ↦
              let same = same_field name material level n m l test in
              rw test (rw (same.0, same.1, same.2) (number_new i))
          | inr other ↦ rw other (ap (λ (stored : Option (List ℤ)). number_of_field p w n l stored i) (stored_other n m l other))
        ]

    pub state_after : state_of p after ≡ with_field p (state_of p w) name material level f
    unfolding state_of
    state_after = same_states _ _ (fun_ext (λ n. fun_ext (λ m. fun_ext (λ l. fun_ext (λ i. number_after n m l i))))) refl

-- a number put into a list
set_number : (numbers : List ℤ) (name : ℕ) (number : ℤ) (other : ℕ) → name < length numbers →
    slice_index_or (slice_set numbers name number) other (pos 0) ≡ (if other == name then number else slice_index_or numbers other (pos 0))
set_number numbers name number other within =
    elim (cases_eq other name) [
      | inl same ↦ rw (eq-eqb other name same, same) (get_or-set_same numbers name number (pos 0) within)
      | inr differs ↦ rw (ne_eqb other name differs) (get_or-set_other numbers name other number (pos 0) differs)
    ]

pub state_with_number : (p : Problem) (w : Warehouse) (reductions : List ℤ) (name : ℕ) (number : ℤ) → name < length w.reductions →
    reductions ≡ slice_set w.reductions name number →
    state_of p (record { is_before = w.is_before; fields = w.fields; reductions = reductions }) ≡ with_reduction (state_of p w) name number
unfolding state_of
state_with_number p w reductions name number within put =
    same_states _ _ refl (fun_ext (λ other. ap (λ (numbers : List ℤ). slice_index_or numbers other (pos 0)) put ∙ set_number w.reductions name number other within))

abbrev empty_warehouse : Bool → (fields reductions : ℕ) → Warehouse
empty_warehouse before n m = record { is_before = before; fields = replicate n None; reductions = replicate m (pos 0) }

stored_in_empty : (p : Problem) (before : Bool) (n m name material level : ℕ) → stored_field p (empty_warehouse before n m) name material level ≡ None
stored_in_empty p before n m name material level =
    elim (cases_Bool (has_field p name material level)) [
      | inl there ↦ stored_at p (empty_warehouse before n m) name material level there ∙ item_of_replicate n None (field_place p name material level)
      | inr none ↦ stored_none p (empty_warehouse before n m) name material level none
    ]

number_in_empty : (p : Problem) (before : Bool) (n m name material level : ℕ) (i : Index) →
    number_of_field p (empty_warehouse before n m) name level (stored_field p (empty_warehouse before n m) name material level) i ≡ blank_of p (empty_warehouse before n m) name
number_in_empty p before n m name material level i =
    ap (λ (stored : Option (List ℤ)). number_of_field p (empty_warehouse before n m) name level stored i) (stored_in_empty p before n m name material level)

pub empty_state : (p : Problem) (before : Bool) (n m : ℕ) →
    state_of p (record { is_before = before; fields = replicate n None; reductions = replicate m (pos 0) }) ≡ (if before then nothing else unset p)
unfolding state_of
empty_state p true n m =
    same_states _ _ (fun_ext (λ name. fun_ext (λ material. fun_ext (λ level. fun_ext (λ i. number_in_empty p true n m name material level i)))))
    (fun_ext (λ name. item_of_replicate m (pos 0) name))
empty_state p false n m =
    same_states _ _ (fun_ext (λ name. fun_ext (λ material. fun_ext (λ level. fun_ext (λ i. number_in_empty p false n m name material level i)))))
    (fun_ext (λ name. item_of_replicate m (pos 0) name))
