-- What stands in a table of TOML.
use Rattle.std.specs.Prelude.{ℕ, Bool, ◌&&◌, nat_le, nat_lt, List, [], ◌∷◌, length, ℤ, pos, negsuc, Option, Some, None, if◌then◌else◌, option_and_then}
use Rattle.std.specs.Option.{option_map}
use Rattle.toml.specs.Data.{Data, as_integer, as_array, as_str, Items, no_items, item, Members, no_members, member, get_member}

abbrev pub if_where : {A : Type 0} → (A → Bool) → A → Option A
if_where p x = if p x then Some x else None

-- it is not empty
abbrev pub is_some_list : {A : Type 0} → List A → Bool
is_some_list xs = nat_lt 0 (length xs)

abbrev pub natural : ℤ → Option ℕ
natural (pos n) = Some n
natural (negsuc n) = None

-- a whole number from low to high
abbrev pub number_in : ℕ → ℕ → Data → Option ℕ
number_in low high d = option_and_then (if_where (λ n. nat_le low n && nat_le n high)) (option_and_then natural (as_integer d))

abbrev pub values_of : Items → List Data
values_of no_items = []
values_of (item d ds) = d ∷ values_of ds

-- what each of some values is, if each is one
abbrev pub each_in : {A : Type 0} → (Data → Option A) → List Data → Option (List A)
each_in f [] = Some []
each_in f (d ∷ ds) = option_and_then (λ x. option_and_then (λ xs. Some (x ∷ xs)) (each_in f ds)) (f d)

-- an array whose values are read by f
abbrev pub array_in : {A : Type 0} → (Data → Option A) → Data → Option (List A)
array_in f d = option_and_then (λ ds. each_in f (values_of ds)) (as_array d)

-- the values of an array
abbrev pub array_values : Data → Option (List Data)
array_values d = option_map values_of (as_array d)

-- the text at a key
abbrev pub text_at : List ℕ → Members → Option (List ℕ)
text_at key table = option_and_then as_str (get_member key table)

-- the values of the array at a key
abbrev pub values_at : List ℕ → Members → Option (List Data)
values_at key table = option_and_then array_values (get_member key table)

abbrev pub keys_of : Members → List (List ℕ)
keys_of no_members = []
keys_of (member key d ms) = key ∷ keys_of ms
