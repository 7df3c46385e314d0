-- Rules and hide tables that are read one by one.
use Rattle.std.proofs.Common.{◌≡◌, ℕ, ◌+◌, ◌<◌, ◌≤◌, length, get_or, drop, map, List, [], ◌∷◌, ◌++◌, Option, Some, None, Result, Ok, Err, refl, ap, sym, ◌∙◌, append_assoc, append-nil}
use Rattle.std.proofs.lemmas.List.{drop_more, drop_all}
use Rattle.std.specs.Option.{option_map_or}
use Rattle.toml.specs.Data.{Data}
use Rattle.toml.specs.View.{view}
use Rattle.toml.specs.declared.value.Value.{Value}
use Rattle.slp_text.specs.Reading.{read_map}
use Rattle.rule_files.specs.RuleFiles.{each_from}
use Rattle.rule_files.specs.declared.fault.RuleFault.{RuleFault}
use Rattle.rule_files.specs.declared.fault.RuleFault.TheVariants.{Shape}

module _ {A : Type 0} (f : Data → Option A) where
  put_between : (xs : List A) (x : A) (read : Result (List A) RuleFault) → read_map (λ ys. xs ++ ys) (read_map (λ ys. x ∷ ys) read) ≡ read_map (λ ys. (xs ++ x ∷ []) ++ ys) read
  put_between xs x (Ok ys) = ap Ok (sym (append_assoc xs (x ∷ []) ys))
  put_between xs x (Err e) = refl

  -- one more is read
  pub read_one : (xs : List A) (n : ℕ) (d : Data) (ds : List Data) (x : A) → f d ≡ Some x → read_map (λ ys. xs ++ ys) (each_from f n (d ∷ ds)) ≡ read_map (λ ys. (xs ++ x ∷ []) ++ ys) (each_from f (n + 1) ds)
  read_one xs n d ds x h =
      ap (λ (o : Option A). read_map (λ ys. xs ++ ys) (option_map_or (λ y. read_map (λ ys. y ∷ ys) (each_from f (n + 1) ds)) o (Err (Shape n)))) h ∙ put_between xs x (each_from f (n + 1) ds)

  -- the value at an index is one, and has the number n
  pub read_step : (n : ℕ) (values : List Value) (i : ℕ) (other : Value) (xs : List A) (x : A) → i < length values → f (view (get_or values i other)) ≡ Some x
      → read_map (λ ys. xs ++ ys) (each_from f n (map view (drop i values))) ≡ read_map (λ ys. (xs ++ x ∷ []) ++ ys) (each_from f (n + 1) (map view (drop (i + 1) values)))
  read_step n values i other xs x h is =
      ap (λ vs. read_map (λ ys. xs ++ ys) (each_from f n (map view vs))) (drop_more values i other h) ∙ read_one xs n (view (get_or values i other)) (map view (drop (i + 1) values)) x is

  -- it is none
  pub read_none : (n : ℕ) (values : List Value) (i : ℕ) (other : Value) (xs : List A) → i < length values → f (view (get_or values i other)) ≡ None
      → read_map (λ ys. xs ++ ys) (each_from f n (map view (drop i values))) ≡ Err (Shape n)
  read_none n values i other xs h is =
      ap (λ vs. read_map (λ ys. xs ++ ys) (each_from f n (map view vs))) (drop_more values i other h)
      ∙ ap (λ (o : Option A). read_map (λ ys. xs ++ ys) (option_map_or (λ y. read_map (λ ys. y ∷ ys) (each_from f (n + 1) (map view (drop (i + 1) values)))) o (Err (Shape n)))) is

  -- there is no other value
  pub read_all : (n : ℕ) (values : List Value) (i : ℕ) (xs : List A) → length values ≤ i → read_map (λ ys. xs ++ ys) (each_from f n (map view (drop i values))) ≡ Ok xs
  read_all n values i xs h = ap (λ vs. read_map (λ ys. xs ++ ys) (each_from f n (map view vs))) (drop_all i values h) ∙ ap Ok (append-nil xs)
