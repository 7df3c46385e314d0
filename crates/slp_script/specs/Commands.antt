-- What lines spell.
use Rattle.std.specs.Prelude.{◌≡◌, ◌≢◌, ◌≤◌, IsUtf8, ℕ, ◌+◌, nat_lt, nat_le, ◌==◌, if◌then◌else◌, List, [], ◌∷◌, ◌++◌, take, drop, length, codes, Option, Some, None, Result, Ok, Err}
use Rattle.std.specs.Option.{option_map, option_and_then, option_or}
use Rattle.std.specs.List.{AllByRecursion}
use Rattle.std.specs.Cmp.Lexicographic.{pointwise}
use Rattle.hex.specs.Hex.{decode_of}
use Rattle.hex.specs.declared.error.FromHexError.{FromHexError}
use Rattle.addresses.specs.Addresses.{number_of, address_of}
use Rattle.slp_script.specs.Lines.{Line}
use Rattle.slp_script.specs.declared.command.Block.{Block}
use Rattle.slp_script.specs.declared.command.Block.TheVariants.{Config, Template, Rules}
use Rattle.slp_script.specs.declared.command.Order.{Order}
use Rattle.slp_script.specs.declared.command.Order.TheVariants.{Blank, At, From, Loop, Udp, Open, Tcp, Sweep}

-- the bytes of a line, without its LF
abbrev pub longest_line : ℕ
longest_line = 140000

abbrev pub longest_datagram : ℕ
longest_datagram = 65535

-- an order of one line, or a block with the lines of its text
pub data Command : Type 0 where
  Single : Order → Command
  Text : Block → List Line → Command

-- what stands after a word, in a line that begins with it
abbrev pub rest_after : List ℕ → Line → Option (List ℕ)
rest_after word l = if pointwise ◌==◌ (take (length word) l) word then Some (drop (length word) l) else None

abbrev pub within_datagram : Result (List ℕ) FromHexError → Option Order
within_datagram (Ok bytes) = if nat_le (length bytes) longest_datagram then Some (Udp bytes) else None
within_datagram (Err e) = None

-- a piece of a stream is as long as its line lets it be
abbrev pub as_piece : Result (List ℕ) FromHexError → Option Order
as_piece (Ok bytes) = Some (Tcp bytes)
as_piece (Err e) = None

abbrev pub open_line : List ℕ
open_line = codes "open"

abbrev pub tcp_word : List ℕ
tcp_word = codes "tcp "

-- what the line that is this word alone stands for
abbrev pub if_alone : {A : Type 0} → List ℕ → A → Line → Option A
if_alone word x l = if pointwise ◌==◌ l word then Some x else None

abbrev pub at_word : List ℕ
at_word = codes "at "

abbrev pub from_word : List ℕ
from_word = codes "from "

abbrev pub loop_word : List ℕ
loop_word = codes "loop "

abbrev pub udp_word : List ℕ
udp_word = codes "udp "

abbrev pub sweep_line : List ℕ
sweep_line = codes "sweep"

-- the line that begins a block, and the one that ends it
abbrev pub word_of : Block → Line
word_of Config = codes "config"
word_of Template = codes "template"
word_of Rules = codes "rules"

abbrev pub block_end : Line
block_end = codes "."

-- the block that a line begins, if it begins one
abbrev pub block_of : Line → Option Block
block_of l =
    option_or (if_alone (word_of Config) Config l)
    (option_or (if_alone (word_of Template) Template l)
    (if_alone (word_of Rules) Rules l))

-- the order that a line is, if it is one
unfoldable pub order_of : Line → Option Order
order_of l =
    if nat_lt longest_line (length l) then None
    else if length l == 0 then Some Blank
    else option_or
    (option_and_then (λ digits. option_map At (number_of digits)) (rest_after at_word l))
    (option_or
    (option_and_then (λ text. option_map From (address_of text)) (rest_after from_word l))
    (option_or
    (option_and_then (λ digits. option_map Loop (number_of digits)) (rest_after loop_word l))
    (option_or
    (option_and_then (λ text. within_datagram (decode_of text)) (rest_after udp_word l))
    (option_or
    (if_alone open_line Open l)
    (option_or
    (if_alone sweep_line Sweep l)
    (option_and_then (λ text. as_piece (decode_of text)) (rest_after tcp_word l)))))))

-- a line that may stand in a block
pub record IsBodyLine (l : Line) : Type 0 where
  pub short : length l ≤ longest_line
  pub utf8 : IsUtf8 l
  pub no_dot : l ≢ block_end

abbrev pub IsBody : List Line → Type 0
IsBody body = AllByRecursion IsBodyLine body

-- the first line of a block, and some of its lines
abbrev pub block_start : Block → List Line → List Line
block_start block body = word_of block ∷ body

-- these lines are this command
abbrev pub Spells : List Line → Command → Type 0
Spells ls (Single order) = (l : Line) × (ls ≡ l ∷ []) × (order_of l ≡ Some order)
Spells ls (Text block body) = (ls ≡ block_start block body ++ block_end ∷ []) × IsBody body

-- these lines are these commands, one after the other
abbrev pub Reads : List Line → List Command → Type 0
Reads ls [] = ls ≡ []
Reads ls (c ∷ cs) = (front rest : List Line) × (ls ≡ front ++ rest) × Spells front c × Reads rest cs

-- where a command would begin, the k-th of these lines is the first at fault
pub data IsStuck (ls : List Line) (k : ℕ) : Type 0 where
  -- the line is not an order, and begins no block
  AtLine : (l : Line) (rest : List Line) → ls ≡ l ∷ rest → order_of l ≡ None → block_of l ≡ None → k ≡ 1 → IsStuck ls k
  -- a line of a block is too long or not text
  AtBody : (block : Block) (body : List Line) (l : Line) (rest : List Line) → ls ≡ block_start block body ++ l ∷ rest → IsBody body → ¬ ((length l ≤ longest_line) × IsUtf8 l) → k ≡ length body + 2 → IsStuck ls k
  -- the lines end within a block
  AtEnd : (block : Block) (body : List Line) → ls ≡ block_start block body → IsBody body → k ≡ 1 → IsStuck ls k

-- the lines spell these commands, and then the n-th line of all, counted from 1, is the first at fault
pub record StopsAt (ls : List Line) (cs : List Command) (n : ℕ) : Type 0 where
  pub before : List Line
  pub stuck : List Line
  pub all : ls ≡ before ++ stuck
  pub reads : Reads before cs
  pub line : ℕ
  pub is_stuck : IsStuck stuck line
  pub number : n ≡ length before + line
