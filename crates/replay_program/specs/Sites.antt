-- The site with which a run begins.
use Rattle.std.specs.Prelude.{[], ◌∷◌, codes}
use Rattle.std.specs.FinMap as fin
use Rattle.slp_text.specs.Keys.{key_of}
use Rattle.directory_judge.specs.Sites.{Site}

-- the scope `DEFAULT`, room for 16 entries, and no templates
abbrev pub first_site : Site
first_site = record { scopes = key_of (codes "DEFAULT") ∷ []; capacity = 16; templates = fin.empty; boot = 1 }
