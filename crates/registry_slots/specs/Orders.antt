-- The held slots in an order of their entries.
use Rattle.std.specs.Prelude.{◌≡◌, ℕ, Bool, false, if◌then◌else◌, is_some, List, [], ◌∷◌, ◌++◌, Option, Some, None}
use Rattle.std.specs.List.{prefix_len}
use Rattle.std.specs.Ordering.{is_lt, ordering_then}
use Rattle.std.specs.declared.cmp.Ordering.{Ordering}
use Rattle.std.specs.declared.cmp.Ordering.TheVariants.{Less, Greater}
use Rattle.slp_text.specs.Words.{bytes_cmp}
use Rattle.service_url.specs.Types.{root_of}
use Rattle.registry_core.specs.declared.entry.Entry.{Entry}
use Rattle.registry_slots.specs.declared.orders.By.{By}
use Rattle.registry_slots.specs.declared.orders.By.TheVariants as by
use Rattle.registry_slots.specs.declared.orders.Spot.{Spot}
use Rattle.registry_core.specs.Entries.{Pair, pair_cmp, pair_of}
use Rattle.registry_slots.specs.Slots.{slot_at}
use Rattle.slot_chains.specs.Links.{count}

-- by something in front, then by URL, and then by language
abbrev pub Rank : Type 0
Rank = List ℕ × Pair

abbrev pub rank_cmp : Rank → Rank → Ordering
rank_cmp a b = ordering_then (bytes_cmp a.0 b.0) (pair_cmp a.1 b.1)

abbrev pub front_of : By → Entry → List ℕ
front_of by.Place e = []
front_of by.Root e = root_of e.kind
front_of by.Kind e = e.kind

abbrev pub rank_of : By → Entry → Rank
rank_of b e = (front_of b e, pair_of e)

abbrev pub rank_in : By → Option Entry → Rank
rank_in b None = ([], ([], []))
rank_in b (Some e) = rank_of b e

abbrev pub rank_at : By → List (Option Entry) → ℕ → Rank
rank_at b slots x = rank_in b (slot_at slots x)

-- behind all that has a front: the next text in byte order is the front and one zero byte
abbrev pub rank_behind : List ℕ → Rank
rank_behind front = (front ++ 0 ∷ [], ([], []))

abbrev pub spot_rank : Spot → Rank
spot_rank s = if s.is_behind then rank_behind s.front.now else (s.front.now, (s.url.now, s.language.now))

-- whether there is an entry that comes before q
abbrev pub comes_before : By → Rank → Option Entry → Bool
comes_before b q None = false
comes_before b q (Some e) = is_lt (rank_cmp (rank_of b e) q)

-- how many slots of the order come before q
abbrev pub place_in : By → List (Option Entry) → List ℕ → Rank → ℕ
place_in b slots order q = prefix_len (λ x. comes_before b q (slot_at slots x)) order

-- how the pair of an entry stands to another one; where there is none it comes after all
abbrev pub stands_to : Pair → Option Entry → Ordering
stands_to q None = Greater
stands_to q (Some e) = pair_cmp (pair_of e) q

abbrev pub Above : By → List (Option Entry) → Rank → List ℕ → Type 0
Above b slots p [] = Unit {0}
Above b slots p (x ∷ xs) = (rank_cmp p (rank_at b slots x) ≡ Less) × Above b slots p xs

abbrev pub Rising : By → List (Option Entry) → List ℕ → Type 0
Rising b slots [] = Unit {0}
Rising b slots (x ∷ xs) = Above b slots (rank_at b slots x) xs × Rising b slots xs

-- each held slot once and no other, by rank
pub record IsOrder (b : By) (slots : List (Option Entry)) (order : List ℕ) : Type 0 where
  pub each : (x : ℕ) → count x order ≡ (if is_some (slot_at slots x) then 1 else 0)
  pub rising : Rising b slots order

abbrev pub is_held : List (Option Entry) → ℕ → Bool
is_held slots x = is_some (slot_at slots x)
