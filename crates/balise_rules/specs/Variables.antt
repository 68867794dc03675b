-- The variables: their names and widths (SUBSET-026, chapter 7, and 8.4.2 for the header), and which of them are set in place.
use Rattle.std.specs.Prelude.{ℕ, Bool, true, false, List, [], ◌∷◌, Option, codes, find, bytes_eq}
use Rattle.balise_rules.specs.declared.variable.Var.{Var}
use Rattle.balise_rules.specs.declared.variable.Var.TheVariants.{NidPacket, QDir, LPacket, QScale, NIter, NidC, NidBg, DLink, QNewcountry, QLinkorientation, QLinkreaction, QLocacc, DGradient, QGdir, GA, DStatic, VStatic, QFront, QDiff, NcCddiff, NcDiff, VDiff, DLeveltr, MLeveltr, NidNtc, LAckleveltr, NidTsr, DTsr, LTsr, VTsr, QUpdown, MVersion, QMedia, NPig, NTotal, MDup, MMcount, QLink}

-- how many bits a value takes
unfoldable pub width_of : Var → ℕ
width_of NidPacket = 8
width_of QDir = 2
width_of LPacket = 13
width_of QScale = 2
width_of NIter = 5
width_of NidC = 10
width_of NidBg = 14
width_of DLink = 15
width_of QNewcountry = 1
width_of QLinkorientation = 1
width_of QLinkreaction = 2
width_of QLocacc = 6
width_of DGradient = 15
width_of QGdir = 1
width_of GA = 8
width_of DStatic = 15
width_of VStatic = 7
width_of QFront = 1
width_of QDiff = 2
width_of NcCddiff = 4
width_of NcDiff = 4
width_of VDiff = 7
width_of DLeveltr = 15
width_of MLeveltr = 3
width_of NidNtc = 8
width_of LAckleveltr = 15
width_of NidTsr = 8
width_of DTsr = 15
width_of LTsr = 15
width_of VTsr = 7
width_of QUpdown = 1
width_of MVersion = 7
width_of QMedia = 1
width_of NPig = 3
width_of NTotal = 3
width_of MDup = 2
width_of MMcount = 8
width_of QLink = 1

unfoldable pub name_of : Var → List ℕ
name_of NidPacket = codes "NID_PACKET"
name_of QDir = codes "Q_DIR"
name_of LPacket = codes "L_PACKET"
name_of QScale = codes "Q_SCALE"
name_of NIter = codes "N_ITER"
name_of NidC = codes "NID_C"
name_of NidBg = codes "NID_BG"
name_of DLink = codes "D_LINK"
name_of QNewcountry = codes "Q_NEWCOUNTRY"
name_of QLinkorientation = codes "Q_LINKORIENTATION"
name_of QLinkreaction = codes "Q_LINKREACTION"
name_of QLocacc = codes "Q_LOCACC"
name_of DGradient = codes "D_GRADIENT"
name_of QGdir = codes "Q_GDIR"
name_of GA = codes "G_A"
name_of DStatic = codes "D_STATIC"
name_of VStatic = codes "V_STATIC"
name_of QFront = codes "Q_FRONT"
name_of QDiff = codes "Q_DIFF"
name_of NcCddiff = codes "NC_CDDIFF"
name_of NcDiff = codes "NC_DIFF"
name_of VDiff = codes "V_DIFF"
name_of DLeveltr = codes "D_LEVELTR"
name_of MLeveltr = codes "M_LEVELTR"
name_of NidNtc = codes "NID_NTC"
name_of LAckleveltr = codes "L_ACKLEVELTR"
name_of NidTsr = codes "NID_TSR"
name_of DTsr = codes "D_TSR"
name_of LTsr = codes "L_TSR"
name_of VTsr = codes "V_TSR"
name_of QUpdown = codes "Q_UPDOWN"
name_of MVersion = codes "M_VERSION"
name_of QMedia = codes "Q_MEDIA"
name_of NPig = codes "N_PIG"
name_of NTotal = codes "N_TOTAL"
name_of MDup = codes "M_DUP"
name_of MMcount = codes "M_MCOUNT"
name_of QLink = codes "Q_LINK"

abbrev pub all_variables : List Var
all_variables = NidPacket ∷ QDir ∷ LPacket ∷ QScale ∷ NIter ∷ NidC ∷ NidBg ∷ DLink ∷ QNewcountry ∷ QLinkorientation ∷ QLinkreaction ∷ QLocacc ∷ DGradient ∷ QGdir ∷ GA ∷ DStatic ∷ VStatic ∷ QFront ∷ QDiff ∷ NcCddiff ∷ NcDiff ∷ VDiff ∷ DLeveltr ∷ MLeveltr ∷ NidNtc ∷ LAckleveltr ∷ NidTsr ∷ DTsr ∷ LTsr ∷ VTsr ∷ QUpdown ∷ MVersion ∷ QMedia ∷ NPig ∷ NTotal ∷ MDup ∷ MMcount ∷ QLink ∷ []

-- Its value says what follows in its packet, or another edit sets it: not set in place (this project's rule).
unfoldable pub steers : Var → Bool
steers NidPacket = true
steers LPacket = true
steers NIter = true
steers QNewcountry = true
steers NidC = true
steers MLeveltr = true
steers QDiff = true
steers _ = false

-- The variables of a header that are set in place.
unfoldable pub is_free_in_header : Var → Bool
is_free_in_header MDup = true
is_free_in_header MMcount = true
is_free_in_header QLink = true
is_free_in_header _ = false

-- A distance: its name begins with D_.
unfoldable pub is_distance : Var → Bool
is_distance DLink = true
is_distance DGradient = true
is_distance DStatic = true
is_distance DLeveltr = true
is_distance DTsr = true
is_distance _ = false

-- The variable of this name.
abbrev pub var_named : List ℕ → Option Var
var_named name = find (λ v. bytes_eq (name_of v) name) all_variables
