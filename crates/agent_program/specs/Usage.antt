-- What an agent prints of a call that is not understood.
use Rattle.std.specs.Prelude.{ℕ, List, [], ◌∷◌, ◌++◌, codes}
use Rattle.slp_text.specs.Ascii.{line_feed}

-- how the program is called
abbrev pub usage_text : List ℕ
usage_text = codes "usage: slpda CONFIG" ++ line_feed ∷ []
