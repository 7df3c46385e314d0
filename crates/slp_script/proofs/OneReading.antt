-- The lines of a script are read in one way.
use Rattle.std.proofs.Common.{◌≡◌, ℕ, ◌+◌, ◌≤◌, List, [], ◌∷◌, ◌++◌, length, Some, None, refl, sym, ap, ap₂, ◌∙◌, arith, append_assoc, length-append}
use Rattle.std.specs.Prelude.{IsUtf8}
use Rattle.std.proofs.lemmas.Option.{none-some, same_Some}
use Rattle.slp_script.specs.Lines.{Line}
use Rattle.slp_script.specs.declared.command.Block.{Block}
use Rattle.slp_script.specs.declared.command.Block.TheVariants.{Config, Template, Rules}
use Rattle.slp_script.specs.declared.command.Order.{Order}
use Rattle.slp_script.specs.Commands.{Command, Single, Text, Spells, Reads, order_of, block_of, word_of, block_end, longest_line, IsBody, IsStuck, AtLine, AtBody, AtEnd, StopsAt}
use Rattle.slp_text.specs.Ascii.{dot}

-- the word of a block is not an order, and begins that block
word-order : (block : Block) → order_of (word_of block) ≡ None
unfolding order_of
word-order Config = refl
word-order Template = refl
word-order Rules = refl

word-block : (block : Block) → block_of (word_of block) ≡ Some block
word-block Config = refl
word-block Template = refl
word-block Rules = refl

one_word : (a b : Block) → word_of a ≡ word_of b → a ≡ b
one_word a b e = same_Some a b (sym (word-block a) ∙ ap block_of e ∙ word-block b)

-- the first block of one list of lines
body-unique : (a b rest more : List Line) → IsBody a → IsBody b → a ++ block_end ∷ rest ≡ b ++ block_end ∷ more → (a ≡ b) × (rest ≡ more)
body-unique [] [] rest more h k e = (refl, cc)
body-unique [] (y ∷ b) rest more h k e = absurd (k.0.no_dot (cc))
body-unique (x ∷ a) [] rest more h k e = absurd (h.0.no_dot (cc))
body-unique (x ∷ a) (y ∷ b) rest more h k e =
    let r = body-unique a b rest more h.1 k.1 cc in
    let first : x ≡ y = cc in
    (cc, r.1)

dot-utf8 : IsUtf8 block_end
unfolding lib.Utf8.encode
dot-utf8 = (dot ∷ [], (refl, refl))

-- a body with an end isn't one with a line at fault
body-fault : (a b : List Line) (l : Line) (rest more : List Line) → IsBody a → IsBody b → ((length l ≤ longest_line) × IsUtf8 l → ⊥) → a ++ block_end ∷ rest ≡ b ++ l ∷ more → ⊥
body-fault [] [] l rest more h k f e = f (let same : l ≡ block_end = cc in rw same (omega arith, dot-utf8))
body-fault [] (y ∷ b) l rest more h k f e = k.0.no_dot cc
body-fault (x ∷ a) [] l rest more h k f e = let same : l ≡ x = cc in f (rw same (h.0.short, h.0.utf8))
body-fault (x ∷ a) (y ∷ b) l rest more h k f e = body-fault a b l rest more h.1 k.1 f cc

-- nor one that ends without
body-end : (a b rest : List Line) → IsBody b → a ++ block_end ∷ rest ≡ b → ⊥
body-end [] [] rest k e = cc
body-end [] (y ∷ b) rest k e = k.0.no_dot cc
body-end (x ∷ a) [] rest k e = cc
body-end (x ∷ a) (y ∷ b) rest k e = body-end a b rest k.1 cc

single-word : (block : Block) (l : Line) (o : Order) → order_of l ≡ Some o → l ≡ word_of block → ⊥
single-word block l o is e = absurd (none-some o (sym (sym is ∙ ap order_of e ∙ word-order block)))

no-word : (block : Block) (l : Line) → block_of l ≡ None → l ≡ word_of block → ⊥
no-word block l none e = absurd (none-some block (sym (sym (word-block block) ∙ ap block_of (sym e) ∙ none)))

-- the first command of one list of lines
Spells-unique : (front rest : List Line) (c : Command) (ahead more : List Line) (d : Command) → Spells front c → Spells ahead d → front ++ rest ≡ ahead ++ more → (c ≡ d) × (rest ≡ more)
Spells-unique front rest (Single o) ahead more (Single p) s t e =
    let h : s.0 ∷ rest ≡ t.0 ∷ more = rw (s.1, t.1) at e in
    let same : s.0 ≡ t.0 = cc in
    let one : Some o ≡ Some p = sym s.2 ∙ (ap order_of same ∙ t.2) in
    (cc, cc)
Spells-unique front rest (Single o) ahead more (Text k b) s t e =
    let h : s.0 ∷ rest ≡ word_of k ∷ ((b ++ block_end ∷ []) ++ more) = rw (s.1, t.0) at e in
    absurd (single-word k s.0 o s.2 cc)
Spells-unique front rest (Text j a) ahead more (Single p) s t e =
    let h : word_of j ∷ ((a ++ block_end ∷ []) ++ rest) ≡ t.0 ∷ more = rw (s.0, t.1) at e in
    absurd (single-word j t.0 p t.2 cc)
Spells-unique front rest (Text j a) ahead more (Text k b) s t e =
    let h : word_of j ∷ ((a ++ block_end ∷ []) ++ rest) ≡ word_of k ∷ ((b ++ block_end ∷ []) ++ more) = rw (s.0, t.0) at e in
    let word : word_of j ≡ word_of k = cc in
    let g : a ++ block_end ∷ rest ≡ b ++ block_end ∷ more = sym (append_assoc a (block_end ∷ []) rest) ∙ ((cc) ∙ append_assoc b (block_end ∷ []) more) in
    let r = body-unique a b rest more s.1 t.1 g in
    (ap₂ Text (one_word j k word) r.0, r.1)

not_empty : (front rest : List Line) (c : Command) → Spells front c → [] ≡ front ++ rest → ⊥
not_empty front rest (Single o) s e = let h : [] ≡ s.0 ∷ rest = rw s.1 at e in cc
not_empty front rest (Text k a) s e = let h : [] ≡ word_of k ∷ ((a ++ block_end ∷ []) ++ rest) = rw s.0 at e in cc

-- lines are read in one way
pub Reads-unique : (ls : List Line) (cs ds : List Command) → Reads ls cs → Reads ls ds → cs ≡ ds
Reads-unique ls [] [] r s = refl
Reads-unique ls [] (d ∷ ds) r s = absurd (not_empty s.0 s.1 d s.3 (sym r ∙ s.2))
Reads-unique ls (c ∷ cs) [] r s = absurd (not_empty r.0 r.1 c r.3 (sym s ∙ r.2))
Reads-unique ls (c ∷ cs) (d ∷ ds) r s =
    let one = Spells-unique r.0 r.1 c s.0 s.1 d r.3 s.3 (sym r.2 ∙ s.2) in
    let t : Reads r.1 ds = rw one.1 s.4 in
    let tail = Reads-unique r.1 cs ds r.4 t in
    let head = one.0 in
    cc

Stuck-not : (front rest : List Line) (c : Command) (ls : List Line) (k : ℕ) → Spells front c → IsStuck ls k → front ++ rest ≡ ls → ⊥
Stuck-not front rest (Single o) ls k s (AtLine l more all none no_block one) e =
    let h : s.0 ∷ rest ≡ l ∷ more = rw (s.1, all) at e in
    let same : s.0 ≡ l = cc in
    let x : Some o ≡ None = sym s.2 ∙ (ap order_of same ∙ none) in cc
Stuck-not front rest (Single o) ls k s (AtBody block body l more all is fault one) e =
    let h : s.0 ∷ rest ≡ word_of block ∷ (body ++ l ∷ more) = rw (s.1, all) at e in
    single-word block s.0 o s.2 cc
Stuck-not front rest (Single o) ls k s (AtEnd block body all is one) e =
    let h : s.0 ∷ rest ≡ word_of block ∷ body = rw (s.1, all) at e in
    single-word block s.0 o s.2 cc
Stuck-not front rest (Text j a) ls k s (AtLine l more all none no_block one) e =
    let h : word_of j ∷ ((a ++ block_end ∷ []) ++ rest) ≡ l ∷ more = rw (s.0, all) at e in
    no-word j l no_block cc
Stuck-not front rest (Text j a) ls k s (AtBody block body l more all is fault one) e =
    let h : word_of j ∷ ((a ++ block_end ∷ []) ++ rest) ≡ word_of block ∷ (body ++ l ∷ more) = rw (s.0, all) at e in
    body-fault a body l rest more s.1 is fault (sym (append_assoc a (block_end ∷ []) rest) ∙ cc)
Stuck-not front rest (Text j a) ls k s (AtEnd block body all is one) e =
    let h : word_of j ∷ ((a ++ block_end ∷ []) ++ rest) ≡ word_of block ∷ body = rw (s.0, all) at e in
    body-end a body rest is (sym (append_assoc a (block_end ∷ []) rest) ∙ cc)

nothing_stuck : (ls : List Line) (k : ℕ) → IsStuck ls k → ls ≡ [] → ⊥
nothing_stuck ls k (AtLine l more all none no_block one) e = let h : [] ≡ l ∷ more = sym e ∙ all in cc
nothing_stuck ls k (AtBody block body l more all is fault one) e = let h : [] ≡ word_of block ∷ (body ++ l ∷ more) = sym e ∙ all in cc
nothing_stuck ls k (AtEnd block body all is one) e = let h : [] ≡ word_of block ∷ body = sym e ∙ all in cc

stopped : (cs ds : List Command) (ls before stuck : List Line) (k : ℕ) → Reads ls cs → Reads before ds → ls ≡ before ++ stuck → IsStuck stuck k → ⊥
stopped [] [] ls before stuck k r s e h = nothing_stuck stuck k h (let g : [] ≡ [] ++ stuck = sym r ∙ (e ∙ ap (λ v. v ++ stuck) s) in sym g)
stopped [] (d ∷ ds) ls before stuck k r s e h =
    not_empty s.0 (s.1 ++ stuck) d s.3 (sym r ∙ (e ∙ (ap (λ v. v ++ stuck) s.2 ∙ append_assoc s.0 s.1 stuck)))
stopped (c ∷ cs) [] ls before stuck k r s e h =
    Stuck-not r.0 r.1 c stuck k r.3 h (sym r.2 ∙ (e ∙ ap (λ v. v ++ stuck) s))
stopped (c ∷ cs) (d ∷ ds) ls before stuck k r s e h =
    let one = Spells-unique r.0 r.1 c s.0 (s.1 ++ stuck) d r.3 s.3 (sym r.2 ∙ (e ∙ (ap (λ v. v ++ stuck) s.2 ∙ append_assoc s.0 s.1 stuck))) in
    stopped cs ds r.1 s.1 stuck k r.4 s.4 one.1 h

-- a script has no line at fault
pub Reads-not_stopped : (ls : List Line) (cs ds : List Command) (n : ℕ) → Reads ls cs → StopsAt ls ds n → ⊥
Reads-not_stopped ls cs ds n r s = stopped cs ds ls s.before s.stuck s.line r s.reads s.all s.is_stuck

-- how many lines a command has
abbrev width : Command → ℕ
width (Single o) = 1
width (Text k body) = length body + 2

Spells-width : (front : List Line) (c : Command) → Spells front c → length front ≡ width c
Spells-width front (Single o) s = ap length s.1
Spells-width front (Text k body) s = ap length s.0 ∙ omega (arith, length-append body (block_end ∷ []))

fault-unique : (a b : List Line) (l m : Line) (rest more : List Line) → IsBody a → IsBody b → ((length l ≤ longest_line) × IsUtf8 l → ⊥) → ((length m ≤ longest_line) × IsUtf8 m → ⊥) → a ++ l ∷ rest ≡ b ++ m ∷ more → length a ≡ length b
fault-unique [] [] l m rest more h k f g e = refl
fault-unique [] (y ∷ b) l m rest more h k f g e = let same : l ≡ y = cc in absurd (f (rw same (k.0.short, k.0.utf8)))
fault-unique (x ∷ a) [] l m rest more h k f g e = let same : m ≡ x = cc in absurd (g (rw same (h.0.short, h.0.utf8)))
fault-unique (x ∷ a) (y ∷ b) l m rest more h k f g e = let r = fault-unique a b l m rest more h.1 k.1 f g cc in omega arith

fault-end : (a b : List Line) (l : Line) (rest : List Line) → IsBody b → ((length l ≤ longest_line) × IsUtf8 l → ⊥) → a ++ l ∷ rest ≡ b → ⊥
fault-end [] [] l rest k f e = cc
fault-end [] (y ∷ b) l rest k f e = let same : l ≡ y = cc in f (rw same (k.0.short, k.0.utf8))
fault-end (x ∷ a) [] l rest k f e = cc
fault-end (x ∷ a) (y ∷ b) l rest k f e = fault-end a b l rest k.1 f cc

Stuck-unique : (ls : List Line) (k j : ℕ) → IsStuck ls k → IsStuck ls j → k ≡ j
Stuck-unique ls k j (AtLine l more all none no_block one) (AtLine m other is nothing none_begun first) = one ∙ sym first
Stuck-unique ls k j (AtLine l more all none no_block one) (AtBody b body m other is good fault first) = absurd (no-word b l no_block (let h : l ∷ more ≡ word_of b ∷ (body ++ m ∷ other) = sym all ∙ is in cc))
Stuck-unique ls k j (AtLine l more all none no_block one) (AtEnd b body is good first) = absurd (no-word b l no_block (let h : l ∷ more ≡ word_of b ∷ body = sym all ∙ is in cc))
Stuck-unique ls k j (AtBody a body l more all good fault one) (AtLine m other is nothing none_begun first) = absurd (no-word a m none_begun (let h : word_of a ∷ (body ++ l ∷ more) ≡ m ∷ other = sym all ∙ is in cc))
Stuck-unique ls k j (AtBody a body l more all good fault one) (AtBody b body2 m other is good2 fault2 first) =
    let h : word_of a ∷ (body ++ l ∷ more) ≡ word_of b ∷ (body2 ++ m ∷ other) = sym all ∙ is in
    let r = fault-unique body body2 l m more other good good2 fault fault2 cc in omega arith
Stuck-unique ls k j (AtBody a body l more all good fault one) (AtEnd b body2 is good2 first) =
    let h : word_of a ∷ (body ++ l ∷ more) ≡ word_of b ∷ body2 = sym all ∙ is in
    absurd (fault-end body body2 l more good2 fault cc)
Stuck-unique ls k j (AtEnd a body all good one) (AtLine m other is nothing none_begun first) = one ∙ sym first
Stuck-unique ls k j (AtEnd a body all good one) (AtBody b body2 m other is good2 fault first) =
    let h : word_of b ∷ (body2 ++ m ∷ other) ≡ word_of a ∷ body = sym is ∙ all in
    absurd (fault-end body2 body m other good fault cc)
Stuck-unique ls k j (AtEnd a body all good one) (AtEnd b body2 is good2 first) = one ∙ sym first

same_stop : (cs ds : List Command) (before stuck : List Line) (k : ℕ) (ahead left : List Line) (j : ℕ) → Reads before cs → Reads ahead ds → before ++ stuck ≡ ahead ++ left → IsStuck stuck k → IsStuck left j → (cs ≡ ds) × (length before + k ≡ length ahead + j)
same_stop [] [] before stuck k ahead left j r s e h i =
    let g : stuck ≡ left = ap (λ v. v ++ stuck) (sym r) ∙ (e ∙ ap (λ v. v ++ left) s) in
    let x : IsStuck stuck j = rw g i in
    let y = Stuck-unique stuck k j h x in
    (refl, omega (arith, ap length r, ap length s))
same_stop [] (d ∷ ds) before stuck k ahead left j r s e h i =
    absurd (Stuck-not s.0 (s.1 ++ left) d stuck k s.3 h (sym (append_assoc s.0 s.1 left) ∙ (ap (λ v. v ++ left) (sym s.2) ∙ (sym e ∙ ap (λ v. v ++ stuck) r))))
same_stop (c ∷ cs) [] before stuck k ahead left j r s e h i =
    absurd (Stuck-not r.0 (r.1 ++ stuck) c left j r.3 i (sym (append_assoc r.0 r.1 stuck) ∙ (ap (λ v. v ++ stuck) (sym r.2) ∙ (e ∙ ap (λ v. v ++ left) s))))
same_stop (c ∷ cs) (d ∷ ds) before stuck k ahead left j r s e h i =
    let one = Spells-unique r.0 (r.1 ++ stuck) c s.0 (s.1 ++ left) d r.3 s.3 (sym (append_assoc r.0 r.1 stuck) ∙ (ap (λ v. v ++ stuck) (sym r.2) ∙ (e ∙ (ap (λ v. v ++ left) s.2 ∙ append_assoc s.0 s.1 left)))) in
    let rest = same_stop cs ds r.1 stuck k s.1 left j r.4 s.4 one.1 h i in
    let wide : length r.0 ≡ length s.0 = Spells-width r.0 c r.3 ∙ (ap width one.0 ∙ sym (Spells-width s.0 d s.3)) in
    let whole = ap length r.2 ∙ length-append r.0 r.1 in
    let other = ap length s.2 ∙ length-append s.0 s.1 in
    (let a = one.0 in let b = rest.0 in cc, omega (arith, rest.1))

-- and one first line at fault
pub StopsAt-unique : (ls : List Line) (cs ds : List Command) (n m : ℕ) → StopsAt ls cs n → StopsAt ls ds m → (cs ≡ ds) × (n ≡ m)
StopsAt-unique ls cs ds n m s t =
    let r = same_stop cs ds s.before s.stuck s.line t.before t.stuck t.line s.reads t.reads (sym s.all ∙ t.all) s.is_stuck t.is_stuck in
    (r.0, s.number ∙ (r.1 ∙ sym t.number))
