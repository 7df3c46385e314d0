-- Arrays of values that are read one by one.
use Rattle.std.proofs.Common.{◌≡◌, ◌<◌, ◌≤◌, ◌+◌, ℕ, length, get_or, drop, List, [], ◌∷◌, ◌++◌, Option, Some, None, refl, ap, sym, ◌∙◌, append_assoc, append-nil, map}
use Rattle.std.proofs.lemmas.List.{drop_more, drop_all}
use Rattle.std.specs.Option.{option_map, option_and_then}
use Rattle.toml.specs.Data.{Data, as_array}
use Rattle.toml.specs.View.{view, items_of, items_view}
use Rattle.toml.specs.declared.value.Value.{Value}
use Rattle.toml_tables.specs.Tables.{values_of, each_in, array_in, array_values}

-- what was read so far, and what is read of the rest
abbrev pub with_front : {A : Type 0} → List A → Option (List A) → Option (List A)
with_front xs o = option_map (λ ys. xs ++ ys) o

pub with_front-same : {A : Type 0} (o : Option (List A)) → with_front [] o ≡ o
with_front-same None = refl
with_front-same (Some xs) = refl

put_between : {A : Type 0} (xs : List A) (x : A) (o : Option (List A)) → with_front xs (option_and_then (λ ys. Some (x ∷ ys)) o) ≡ with_front (xs ++ x ∷ []) o
put_between xs x None = refl
put_between xs x (Some ys) = ap Some (sym (append_assoc xs (x ∷ []) ys))

-- a value more is read
pub read_one : {A : Type 0} (f : Data → Option A) (xs : List A) (d : Data) (ds : List Data) (x : A) → f d ≡ Some x → with_front xs (each_in f (d ∷ ds)) ≡ with_front (xs ++ x ∷ []) (each_in f ds)
read_one f xs d ds x h = ap (λ o. with_front xs (option_and_then (λ y. option_and_then (λ ys. Some (y ∷ ys)) (each_in f ds)) o)) h ∙ put_between xs x (each_in f ds)

-- a value is none
pub read_none : {A : Type 0} (f : Data → Option A) (xs : List A) (d : Data) (ds : List Data) → f d ≡ None → with_front xs (each_in f (d ∷ ds)) ≡ None
read_none f xs d ds h = ap (λ o. with_front xs (option_and_then (λ y. option_and_then (λ ys. Some (y ∷ ys)) (each_in f ds)) o)) h

values_of_items : (ds : List Data) → values_of (items_of ds) ≡ ds
values_of_items [] = refl
values_of_items (d ∷ ds) = ap (λ es. d ∷ es) (values_of_items ds)

-- what an array is
pub read_array : {A : Type 0} (f : Data → Option A) (d : Data) (vs : List Value) → as_array d ≡ Some (items_view vs) → array_in f d ≡ each_in f (map view vs)
read_array f d vs h = ap (option_and_then (λ ds. each_in f (values_of ds))) h ∙ ap (each_in f) (values_of_items (map view vs))

pub array_values_are : (d : Data) (vs : List Value) → as_array d ≡ Some (items_view vs) → array_values d ≡ Some (map view vs)
array_values_are d vs h = ap (option_map values_of) h ∙ ap Some (values_of_items (map view vs))

-- the value at an index is read
pub read_more : {A : Type 0} (f : Data → Option A) (values : List Value) (i : ℕ) (other : Value) (xs : List A) (x : A) → i < length values → f (view (get_or values i other)) ≡ Some x
    → with_front xs (each_in f (map view (drop i values))) ≡ with_front (xs ++ x ∷ []) (each_in f (map view (drop (i + 1) values)))
read_more f values i other xs x h is =
    ap (λ vs. with_front xs (each_in f (map view vs))) (drop_more values i other h) ∙ read_one f xs (view (get_or values i other)) (map view (drop (i + 1) values)) x is

-- it is none
pub read_no_more : {A : Type 0} (f : Data → Option A) (values : List Value) (i : ℕ) (other : Value) (xs : List A) → i < length values → f (view (get_or values i other)) ≡ None
    → with_front xs (each_in f (map view (drop i values))) ≡ None
read_no_more f values i other xs h is =
    ap (λ vs. with_front xs (each_in f (map view vs))) (drop_more values i other h) ∙ read_none f xs (view (get_or values i other)) (map view (drop (i + 1) values)) is

-- there is no other value
pub read_all : {A : Type 0} (f : Data → Option A) (values : List Value) (i : ℕ) (xs : List A) → length values ≤ i → with_front xs (each_in f (map view (drop i values))) ≡ Some xs
read_all f values i xs h = ap (λ vs. with_front xs (each_in f (map view vs))) (drop_all i values h) ∙ ap Some (append-nil xs)
