-- The way of a connection, as a line.
use Rattle.std.specs.Prelude.{ℕ, List, [], ◌++◌, Option, Some, None, codes, decimal}
use Rattle.hb_base.specs.TargetText.{target_text}
use Rattle.hb_quote.specs.Name.{name_text}
use Rattle.hb_route.specs.Answer.{Way, by_gateway, straight, no_way, number_of, text_of}

-- an endpoint, where one is known
abbrev pub endpoint_text : Option (List ℕ) → List ℕ
endpoint_text None = []
endpoint_text (Some name) = codes " endpoint " ++ name_text name

-- the line of a way, with its newline
unfoldable pub way_text : Way → List ℕ
way_text (by_gateway address authority name) =
    codes "gateway " ++ target_text address ++ codes " authority " ++ target_text authority ++ endpoint_text (Some name) ++ codes "\n"
way_text (straight address name) = codes "direct " ++ target_text address ++ endpoint_text name ++ codes "\n"
way_text (no_way why) = codes "no route " ++ decimal (number_of why) ++ codes ": " ++ text_of why ++ codes "\n"
