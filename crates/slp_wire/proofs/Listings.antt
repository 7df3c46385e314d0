-- Counted entries, as they are read and as they are spelled.
use Rattle.std.proofs.Common.{◌≡◌, ℕ, zero, suc, ◌^◌, ◌<◌, List, [], ◌∷◌, ◌++◌, length, Ok, refl, sym, ap, subst, ◌∙◌, append_assoc}
use Rattle.std.specs.List.{AllByRecursion}
use Rattle.byteorder.specs.Endian.{big_bytes}
use Rattle.slp_fields.specs.Steps.{◌>>=◌}
use Rattle.slp_messages.specs.Fields.{IsEntry, AreEntries}
use Rattle.slp_fields.specs.Reading.{number_at, entry_at, entries_at, listing_at}
use Rattle.slp_fields.specs.Spelling.{SpellsEntries, SpellsListing}
use Rattle.slp_messages.specs.declared.message.UrlEntry.{UrlEntry}
use Rattle.slp_wire.proofs.Numbers.{number_takes, number_again}
use Rattle.slp_wire.proofs.Parts.{entry_takes, entry_again}
use Rattle.slp_wire.proofs.Steps.{IsBytes, Takes, Takes-then, bind_ok, from_ok}

-- what was read as entries
pub record Entries (bytes : List ℕ) (n : ℕ) (es : List UrlEntry) (rest : List ℕ) : Type 0 where
  pub text : List ℕ
  pub takes : Takes bytes text rest
  pub spells : SpellsEntries text es
  pub each : AllByRecursion IsEntry es
  pub count : length es ≡ n

pub entries_take : (n : ℕ) (bytes : List ℕ) (x : List UrlEntry × List ℕ) → IsBytes bytes → entries_at n bytes ≡ Ok x → Entries bytes n x.0 x.1
unfolding entries_at
entries_take zero bytes x fits h =
    from_ok (λ (y : List UrlEntry × List ℕ). Entries bytes 0 y.0 y.1) ([], bytes) x h (record { text = []; takes = record { parts = refl; rest_fits = fits }; spells = refl; each = tt; count = refl })
entries_take (suc n) bytes x fits h =
    let a = bind_ok (entry_at bytes) (λ first. entries_at n first.1 >>= λ others. Ok (first.0 ∷ others.0, others.1)) x h in
    let b = bind_ok (entries_at n a.0.1) (λ others. Ok (a.0.0 ∷ others.0, others.1)) x a.2 in
    let t = entry_takes bytes a.0.0 a.0.1 fits a.1 in
    let more : Entries a.0.1 n b.0.0 b.0.1 = entries_take n a.0.1 b.0 t.1.rest_fits b.1 in
    let both = Takes-then bytes t.0 a.0.1 more.text b.0.1 t.1 more.takes in
    let all : Entries bytes (suc n) (a.0.0 ∷ b.0.0) b.0.1 = record { text = t.0 ++ more.text; takes = both; spells = (t.0, more.text, refl, t.2, more.spells); each = (t.3, more.each); count = ap suc more.count } in
    from_ok (λ (y : List UrlEntry × List ℕ). Entries bytes (suc n) y.0 y.1) (a.0.0 ∷ b.0.0, b.0.1) x b.2 all

pub entries_again : (text : List ℕ) (es : List UrlEntry) (rest : List ℕ) → SpellsEntries text es → AllByRecursion IsEntry es → entries_at (length es) (text ++ rest) ≡ Ok (es, rest)
unfolding entries_at
entries_again text [] rest spells each = ap (λ (x : List ℕ). entries_at 0 (x ++ rest)) spells
entries_again text (e ∷ es) rest spells each =
    let regrouped : text ++ rest ≡ spells.0 ++ (spells.1 ++ rest) = ap (λ (x : List ℕ). x ++ rest) spells.2 ∙ append_assoc spells.0 spells.1 rest in
    ap (entries_at (suc (length es))) regrouped ∙ rw (entry_again spells.0 e (spells.1 ++ rest) spells.3 each.0, entries_again spells.1 es rest spells.4 each.1) refl

pub listing_takes : (bytes : List ℕ) (es : List UrlEntry) (rest : List ℕ) → IsBytes bytes → listing_at bytes ≡ Ok (es, rest) → (text : List ℕ) × Takes bytes text rest × SpellsListing text es × AreEntries es
unfolding listing_at
listing_takes bytes es rest fits h =
    let a = bind_ok (number_at bytes) (λ n. entries_at n.0 n.1) (es, rest) h in
    let t = number_takes bytes a.0.0 a.0.1 fits a.1 in
    let more : Entries a.0.1 a.0.0 es rest = entries_take a.0.0 a.0.1 (es, rest) t.0.rest_fits a.2 in
    let both = Takes-then bytes (big_bytes 2 a.0.0) a.0.1 more.text rest t.0 more.takes in
    let counted : Takes bytes (big_bytes 2 (length es) ++ more.text) rest = subst (λ (k : ℕ). Takes bytes (big_bytes 2 k ++ more.text) rest) (sym more.count) both in
    let few : length es < 2 ^ 16 = subst (λ (k : ℕ). k < 2 ^ 16) (sym more.count) t.1 in
    (big_bytes 2 (length es) ++ more.text, counted, (more.text, refl, more.spells), record { each = more.each; few = few })

pub listing_again : (text : List ℕ) (es : List UrlEntry) (rest : List ℕ) → SpellsListing text es → AreEntries es → listing_at (text ++ rest) ≡ Ok (es, rest)
unfolding listing_at
listing_again text es rest spells sound =
    let regrouped : text ++ rest ≡ big_bytes 2 (length es) ++ (spells.0 ++ rest) = ap (λ (x : List ℕ). x ++ rest) spells.1 in
    ap listing_at regrouped ∙ rw (number_again (length es) (spells.0 ++ rest) sound.few) (entries_again spells.0 es rest spells.2 sound.each)
