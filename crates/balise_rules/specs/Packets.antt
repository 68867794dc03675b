-- The packets' tables (SUBSET-026, chapter 7), and which packets are known in which version.
use Rattle.std.specs.Prelude.{ℕ, ◌/◌, ◌==◌, ◌&&◌, ◌||◌, Bool, if◌then◌else◌}
use Rattle.balise_rules.specs.declared.variable.Var.TheVariants.{NidPacket, QDir, LPacket, QScale, NIter, NidC, NidBg, DLink, QNewcountry, QLinkorientation, QLinkreaction, QLocacc, DGradient, QGdir, GA, DStatic, VStatic, QFront, QDiff, NcCddiff, NcDiff, VDiff, DLeveltr, MLeveltr, NidNtc, LAckleveltr, NidTsr, DTsr, LTsr, VTsr}
use Rattle.balise_rules.specs.Forms.{Form, done, shut, never, valued, plain, repeat}

-- N_ITER, and the part as often as it says
unfoldable pub counted : (Form → Form) → Form → Form
counted part rest = valued NIter (λ n. repeat n part rest)

-- NID_C where Q_NEWCOUNTRY is 1
abbrev pub country : ℕ → Form → Form
country new rest = if new == 1 then plain NidC rest else rest

-- an element of packet 5
unfoldable pub link : Form → Form
link rest = plain DLink (valued QNewcountry (λ new. country new (plain NidBg (plain QLinkorientation (plain QLinkreaction (plain QLocacc rest))))))

-- packet 5, linking
unfoldable pub linking : Form → Form
linking rest = plain QScale (link (counted link rest))

unfoldable pub gradient : Form → Form
gradient rest = plain DGradient (plain QGdir (plain GA rest))

-- packet 21, gradient profile
unfoldable pub gradients : Form → Form
gradients rest = plain QScale (gradient (counted gradient rest))

-- a speed for one category of trains; Q_DIFF 3 is spare
unfoldable pub difference : Form → Form
difference rest = valued QDiff (λ q. if q == 0 then plain NcCddiff (plain VDiff rest) else if q == 3 then never else plain NcDiff (plain VDiff rest))

unfoldable pub section : Form → Form
section rest = plain DStatic (plain VStatic (plain QFront (counted difference rest)))

-- packet 27, static speed profile
unfoldable pub speeds : Form → Form
speeds rest = plain QScale (section (counted section rest))

-- a level; M_LEVELTR 1, level NTC, is followed by the national system
unfoldable pub level : Form → Form
level rest = valued MLeveltr (λ m. if m == 1 then plain NidNtc (plain LAckleveltr rest) else plain LAckleveltr rest)

-- packet 41, level transition order
unfoldable pub levels : Form → Form
levels rest = plain QScale (plain DLeveltr (level (counted level rest)))

-- packet 65, temporary speed restriction
unfoldable pub restriction : Form → Form
restriction rest = plain QScale (plain NidTsr (plain DTsr (plain LTsr (plain QFront (plain VTsr rest)))))

-- packet 66, its revocation
unfoldable pub revocation : Form → Form
revocation rest = plain NidTsr rest

-- packet 136, infill location reference: the group where the infill information belongs, an element without orientation
unfoldable pub infill : Form → Form
infill rest = valued QNewcountry (λ new. country new (plain NidBg rest))

-- the first three bits of M_VERSION
abbrev pub major : ℕ → ℕ
major version = version / 16

-- whether a packet is known in a version: 27 and 41 where the first part of the version is 2, the others in each (this project's choice)
unfoldable pub is_known : ℕ → ℕ → Bool
is_known version n = n == 5 || n == 21 || n == 65 || n == 66 || n == 136 || major version == 2 && (n == 27 || n == 41)

-- what follows the first three fields of a known packet
unfoldable pub known_body : ℕ → Form
known_body n =
    if n == 5 then linking shut else if n == 21 then gradients shut else if n == 27 then speeds shut
    else if n == 41 then levels shut else if n == 65 then restriction shut
    else if n == 66 then revocation shut else infill shut

-- what follows the first three fields: packet 0 and packet 255 are none that have them, and an unknown packet is kept bit for bit
unfoldable pub body : ℕ → ℕ → Form
body version n = if n == 0 || n == 255 then never else if is_known version n then known_body n else done

-- a whole packet in a telegram of this version
unfoldable pub packet : ℕ → Form
packet version = valued NidPacket (λ n. plain QDir (plain LPacket (body version n)))
