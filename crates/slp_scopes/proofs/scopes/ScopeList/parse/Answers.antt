use Rattle.std.proofs.Common.{◌≡◌, List, ℕ, Ok, refl, sym, ap, ◌∙◌, chars}
use Rattle.std.specs.List.{slice_split}
use Rattle.std.proofs.lemmas.Result.{err_from_is_err_and}
use Rattle.slp_text.specs.Escapes.{unescaped_text_at}
use Rattle.slp_scopes.specs.ScopeNames.{scope_names_of, keys_of}
use Rattle.slp_text.specs.Reading.{read_map, read_all}
use Rattle.slp_scopes.specs.Scopes.{scopes_of}
use Rattle.slp_text.specs.Lists.{is_comma}
use Rattle.slp_text.specs.Sets.{set_of}
use Rattle.slp_text.specs.declared.escapes.Place.TheVariants.{Scope}
use Rattle.slp_text.proofs.Readers.{read_map-read_map, mapped_fault}
use Rattle.slp_scopes.proofs.PrintedScopes.{read_scopes}
use Rattle.slp_scopes.proofs.scopes.ScopeList.parse.Goals as goal

named-scopes : (text : List ℕ) → scopes_of text ≡ read_map set_of (scope_names_of text)
unfolding scopes_of scope_names_of
named-scopes text = read_map-read_map set_of keys_of (λ parts. set_of (keys_of parts)) (read_all (unescaped_text_at Scope) (slice_split is_comma (chars text))) (λ parts. refl)

settled-scopes : (text : List ℕ) (named keys : List (List ℕ)) → scope_names_of text ≡ Ok named → keys ≡ set_of named → scopes_of text ≡ Ok keys
settled-scopes text named keys is set = named-scopes text ∙ ap (read_map set_of) is ∙ ap Ok (sym set)

pub returns-in_err-names : goal.returns-in_err-names
returns-in_err-names c =
    let p = err_from_is_err_and c.from_residual-in_err-names.result c.from_residual-in_err-names.ensures.1 in
    rw (p.1, p.2, named-scopes c.args.text.now) (mapped_fault set_of c.in_err-names.field-0.0 (scope_names_of c.args.text.now) c.in_err-names.ensures)

pub invariant_of-result : goal.invariant_of-result
invariant_of-result c = read_scopes c.args.text.now c.in_ok-keys.keys.items c.utf8.text c.in_ok-keys.ensures.value

pub invariant_of-result-2 : goal.invariant_of-result-2
invariant_of-result-2 c =
    read_scopes c.args.text.now c.in_ok-keys-2.keys.items c.utf8.text (settled-scopes c.args.text.now c.in_ok-names.field-0.items c.in_ok-keys-2.keys.items c.in_ok-names.ensures c.in_ok-keys-2.ensures.value)

pub returns : goal.returns
returns c = settled-scopes c.args.text.now c.in_ok-names.field-0.items c.in_ok-keys-2.keys.items c.in_ok-names.ensures c.in_ok-keys-2.ensures.value
