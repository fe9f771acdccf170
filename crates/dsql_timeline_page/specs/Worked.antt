-- Worked texts and bars.
use Rattle.std.specs.Prelude.{◌≡◌, [], ◌∷◌, ◌++◌, codes}
use Rattle.dsql_timeline_page.specs.declared.bar.Class.TheVariants as class
use Rattle.dsql_timeline_page.specs.Escape.{escaped}
use Rattle.dsql_timeline_page.specs.Bars.{bar_text}

-- Holds if these texts are escaped as stated.
pub record WorkedEscapes : Type 0 where
  pub nothing : escaped [] ≡ []
  pub plain : escaped (codes "SET a 1") ≡ codes "SET a 1"
  pub marks : escaped (codes "<b>&\"'") ≡ codes "&lt;b&gt;&amp;&quot;&#39;"
  pub entity : escaped (codes "&lt;") ≡ codes "&amp;lt;"
  pub controls : escaped (0 ∷ 10 ∷ 31 ∷ 127 ∷ []) ≡ codes "    "
  pub beyond_ascii : escaped (195 ∷ 169 ∷ []) ≡ 195 ∷ 169 ∷ []

-- Holds if this bar has the stated text.
pub record WorkedBar : Type 0 where
  pub tenure : bar_text (record { class = class.Lent; owner = 7; column = 3; row = 1; columns = 5; rows = 1 })
      (codes "call:7") (codes "[\"lend\",1,2,\"call:7\"]")
      ≡ codes "<svg class=\"lent h1\" x=\"3em\" y=\"1rem\" width=\"5em\" height=\"1rem\">"
      ++ codes "<title>[&quot;lend&quot;,1,2,&quot;call:7&quot;]</title>"
      ++ codes "<rect width=\"100%\" height=\"100%\"/><text x=\"2\" y=\"12\">call:7</text></svg>\n"
