-- How many descriptors a server can need, how many a process may have, and how many streams each loop of a server takes by that.
use Rattle.std.specs.Borrow.{Bor}
use Rattle.std.specs.Prelude.{ℕ, Bool, map, ◌==◌, ◌+◌, ◌*◌, ◌-◌, ◌/◌, List, [], ◌∷◌, codes, drop, max, min, nat_eq, Option, Some, None, Result, option_and_then, if◌then◌else◌}
use Rattle.std.specs.List.{before_first, starts_with}
use Rattle.std.specs.Option.{option_or}
use Rattle.std.specs.Result.{result_ok}
use Rattle.std.specs.Str.{trim_start}
use Rattle.std.specs.Str.Lines.{lines}
use Rattle.addresses.specs.Addresses.{number_of}
use Rattle.slp_text.specs.Ascii.{space}

-- ---- how many are needed

-- each address has a second loop, as long as there are eight loops at most
abbrev pub second_loops : ℕ → ℕ
second_loops addresses = min addresses (8 - addresses)

abbrev pub loops_for : ℕ → ℕ
loops_for addresses = addresses + second_loops addresses

-- without streams: five of each address, one of them a stream that is closed unread; two more of a second loop, and four of the server
abbrev pub own_descriptors : ℕ → ℕ
own_descriptors addresses = 5 * addresses + 2 * second_loops addresses + 4

-- and so many streams of each loop
abbrev pub needed_descriptors : ℕ → ℕ → ℕ
needed_descriptors addresses connections = loops_for addresses * connections + own_descriptors addresses

-- ---- how many there may be

-- what a line of the limits of a process (proc(5)) that is about open files begins with
abbrev pub files_word : List ℕ
files_word = codes "Max open files"

abbrev pub is_space : ℕ → Bool
is_space b = b == space

-- what follows these words
abbrev pub after_files : List ℕ → Option (List ℕ)
after_files line = if starts_with nat_eq line files_word then Some (drop 14 line) else None

-- the number there, up to a space; a limit that is no number is none
abbrev pub limit_in : List ℕ → Option ℕ
limit_in line = option_and_then (λ rest. number_of (before_first is_space (trim_start rest))) (after_files line)

abbrev pub first_limit : List (List ℕ) → Option ℕ
first_limit [] = None
first_limit (line ∷ rest) = option_or (limit_in line) (first_limit rest)

-- the limit that the limits of a process set
abbrev pub files_limit : List ℕ → Option ℕ
files_limit text = first_limit (lines text)

-- the same by what reading them gave
abbrev pub limit_read : {E : Type 0} → Result (List ℕ) E → Option ℕ
limit_read limits = option_and_then files_limit (result_ok limits)

abbrev pub texts_of : List (Bor (List ℕ)) → List (List ℕ)
texts_of = map (λ l. l.now)

-- ---- how many streams a loop takes

-- so many as the configuration says; or fewer, so that those of all loops find descriptors, but one at least
abbrev pub shared_streams : ℕ → ℕ → Option ℕ → ℕ
shared_streams addresses connections None = connections
shared_streams addresses connections (Some most) = min connections (max 1 ((most - own_descriptors addresses) / loops_for addresses))
