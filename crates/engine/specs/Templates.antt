-- Worked cases of templates, as one list: each file and what is printed of it; and that one of the files is another with its template written out.
use Rattle.std.specs.Prelude.{◌≡◌, List, [], ◌∷◌, ◌++◌, map, ℕ}
use Prim.Native.String.{String}
use Rattle.grammar.specs.Text.{text}
use Rattle.reader.specs.WrittenFile.{WrittenFile}
use Rattle.engine.specs.Listing.{listing}
use Rattle.engine.specs.Worked.{here, away}

-- one access; two tables that are here, `b` with a grant and `u` with none
abbrev pub two_tables : String → List ℕ
two_tables e = text "S,x,-\nO,y,-\nA,z,-\nT,b,here\nT,u,here\nG,b,x,y,z\n" ++ text e

-- "the rounds may differ, since F is composed once": a file of one round, and with its template written out one of two
abbrev pub used_twice : List ℕ
used_twice = here "E,4096,(t:x.x+x)(forms*down)\n"

abbrev pub written_twice : List ℕ
written_twice = here "E,4096,((forms*down)+(forms*down))\n"

pub record Printed : Type 0 where
  pub file : List ℕ
  pub output : String

abbrev pub prints : List ℕ → String → Printed
prints f o = record { file = f; output = o }

unfoldable pub templates : List Printed
templates =
    -- the F of an inner template means the outer x, though the inner one hides it in its E
    prints (two_tables "E,0,(t:b.(t:b.b)(b))(u)\n") "grants,1,0,0,0\n" ∷
    -- nothing is captured
    prints (two_tables "E,0,(t:u.(t:b.b)(u))(b)\n") "grants,1,1,0,0\npermit,x,y,z\n" ∷
    prints (two_tables "E,0,(t:x.(t:b.b+x)(u))(b)\n") "grants,1,1,0,0\npermit,x,y,z\n" ∷
    -- rule sets and members of that name are not hidden
    prints (here "E,4096,(t:down.down*down)(forms)\n") "grants,4,2,0,1\npermit,staff,week,read\npermit,ann,week,read\n" ∷
    prints (here "E,4096,(t:ann.ann^[s>=ann])(forms)\n") "grants,4,1,0,0\npermit,staff,week,read\n" ∷
    -- F is composed once: x used twice, the same written out, x not used
    prints used_twice "grants,4,2,0,1\npermit,staff,week,read\npermit,ann,week,read\n" ∷
    prints written_twice "grants,4,2,0,2\npermit,staff,week,read\npermit,ann,week,read\n" ∷
    prints (here "E,4096,(t:x.forms)(forms*down)\n") "grants,4,1,0,1\npermit,staff,week,read\n" ∷
    -- undecided in F is undecided at x, and two uses of x are not linked
    prints (away "E,4096,(t:x.x-x)(forms)\n")
    "grants,4,0,4,0\nundecided,staff,week,read\nundecided,staff,mon,read\nundecided,ann,week,read\nundecided,ann,mon,read\n" ∷
    prints (here "E,0,(t:x.x-x)(forms*down)\n") "grants,4,0,3,0\nundecided,staff,mon,read\nundecided,ann,week,read\nundecided,ann,mon,read\n" ∷
    -- a fifth binding
    prints (two_tables "E,0,(t:x.(t:x.(t:x.(t:x.(t:x.x)(b))(b))(b))(b))(b)\n") "refused,16,7,0\n" ∷ []

unfoldable pub WorkedTemplates : Type 0
WorkedTemplates = (map (λ (c : Printed). listing c.file) templates ≡ map (λ (c : Printed). text c.output) templates) × WrittenFile used_twice written_twice
