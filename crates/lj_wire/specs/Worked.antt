-- Worked streams, from the bytes read to the bytes written, by computation.
use Rattle.std.specs.Prelude.{◌++◌, codes, refl}
use Rattle.lj_wire.specs.Played.{IsWritten, computed, nothing, played, quota, short, unread}
use Rattle.lj_quota.specs.declared.TheConstants.Quota.{USUAL}

-- two atoms: their steps, measures and frame; reversed, they pass the same frames again, and go on past step 0
pub there_and_back : IsWritten USUAL
    (codes "LOAD a 256 1 131072 rest 28\n2\ndimer\nAr 0 0 0\nAr 1.5 0 0\nADVANCE a 1\nSHOW a 0\nSHOW a 1\n"
    ++ (codes "ADVANCE a 1\nSHOW a 0\nSHOW a 1\nMEASURE a\nDUMP a\nREVERSE a\nSHOW a 0\nADVANCE a 1\nSHOW a 0\n"
    ++ codes "ADVANCE a 1\nSHOW a 0\nREVERSE a\nSHOW a 1\n"))
    (codes "OK LOAD a 0 2\nOK ADVANCE a 1\nOK SHOW a 1 0 589 0 0\nOK SHOW a 1 1 25165235 0 0\nOK ADVANCE a 2\n"
    ++ (codes "OK SHOW a 2 0 1774 0 0\nOK SHOW a 2 1 25164050 0 0\nOK MEASURE a 2 2 0 0 0 2808450 -5399727\n"
    ++ (codes "OK DUMP a 2 4\n2\nstep 2\nAr 0.000105 0.000000 0.000000\nAr 1.499894 0.000000 0.000000\nOK REVERSE a 1\n"
    ++ (codes "OK SHOW a 1 0 589 0 0\nOK ADVANCE a 0\nOK SHOW a 0 0 0 0 0\nOK ADVANCE a -1\nOK SHOW a -1 0 0 0 0\n"
    ++ codes "OK REVERSE a 0\nOK SHOW a 0 1 25165824 0 0\n"))))
unfolding computed
there_and_back = played USUAL 17 nothing _ _ refl refl refl

-- a body of two frames gives an atom its motion: its positions one step before step 0, and at it
pub two_frames : IsWritten USUAL
    (codes "LOAD b 256 1 1 pair 44\n1\np\nH -0.0000003 0 0\n1\nc\nH -0.000000001 0 0\nSHOW b 0\nADVANCE b 1\n"
    ++ codes "SHOW b 0\nMEASURE b\n")
    (codes "OK LOAD b 0 1\nOK SHOW b 0 0 4294967295 0 0\nOK ADVANCE b 1\nOK SHOW b 1 0 4 0 0\n"
    ++ codes "OK MEASURE b 1 1 5 0 0 25 0\n")
unfolding computed
two_frames = played USUAL 5 nothing _ _ refl refl refl

-- a branch is a copy: a tug does not change it, a restore does not remove it; the quota allows one
pub one_branch : IsWritten (quota 8 16384 1)
    (codes "LOAD a 256 1 131072 rest 28\n2\ndimer\nAr 0 0 0\nAr 1.5 0 0\nADVANCE a 1\nBRANCH a k\nMEASURE a\n"
    ++ (codes "TUG a 0 5 0 0\nADVANCE a 1\nSHOW a 0\nRESTORE a k\nMEASURE a\nBRANCH a m\nRESTORE a k\nADVANCE a 0\n"
    ++ codes "LIST a\nFORGET a k\nBRANCH a m\n"))
    (codes "OK LOAD a 0 2\nOK ADVANCE a 1\nOK BRANCH a k 1\nOK MEASURE a 1 2 0 0 0 693842 -5399727\nOK TUG a 0 1\n"
    ++ (codes "OK ADVANCE a 2\nOK SHOW a 2 0 1779 0 0\nOK RESTORE a k 1\nOK MEASURE a 1 2 0 0 0 693842 -5399727\n"
    ++ (codes "ERR 22 QUOTA_BRANCHES\nOK RESTORE a k 1\nOK ADVANCE a 1\nOK LIST a 1\nk 1\nOK FORGET a k\n"
    ++ codes "OK BRANCH a m 1\n")))
unfolding computed
one_branch = played (quota 8 16384 1) 15 nothing _ _ refl refl refl

-- two started sessions: commands are answered as of after the pending steps; LIST shows the steps that they go to
pub two_started : IsWritten USUAL
    (codes "LOAD a 256 1 131072 rest 28\n2\ndimer\nAr 0 0 0\nAr 1.5 0 0\n"
    ++ (codes "LOAD b 256 1 131072 rest 28\n2\ndimer\nAr 0 0 0\nAr 1.5 0 0\nSTART a 2\nSTART b 1\nSHOW b 0\nSHOW a 0\n"
    ++ codes "START a 1\nLIST\nREVERSE a\nSHOW a 0\nSTART z 1\nSTART a 1000001\nSTART a 1\nBRANCH a k\n"))
    (codes "OK LOAD a 0 2\nOK LOAD b 0 2\nOK START a 2\nOK START b 1\nOK SHOW b 1 0 589 0 0\nOK SHOW a 2 0 1774 0 0\n"
    ++ (codes "OK START a 3\nOK LIST 2\na 3 2 0\nb 1 2 0\nOK REVERSE a 2\nOK SHOW a 2 0 1774 0 0\nERR 10 NO_SESSION\n"
    ++ codes "ERR 23 STEP_RANGE\nOK START a 1\nOK BRANCH a k 1\n"))
unfolding computed
two_started = played USUAL 14 nothing _ _ refl refl refl

-- carriage returns, an unused column, a last line without line feed, and bodies that are cut short
pub short_bodies : IsWritten USUAL
    (codes "LOAD g 256 1 1 rest 35\n2\r\nc\r\nNa 0 0 0 1.0\r\nCl 1.5 0 0 -1.0LOAD k 256 1 1 rest 13\n2\nc\n"
    ++ codes "Na 0 0 0\nLOAD k 256 1 1 rest 4\n0\nc\nLOAD k 256 1 1 rest 0\n")
    (codes "OK LOAD g 0 2\nERR 31 XYZ_SHORT line 4\nERR 30 XYZ_COUNT line 1\nERR 30 XYZ_COUNT line 1\n")
unfolding computed
short_bodies = played USUAL 4 nothing _ _ refl refl refl

-- the body of a LOAD line with a count is read, whatever else is wrong with the line
pub wrong_load : IsWritten USUAL
    (codes "LOAD 5\n12345LOAD a 256 1 1 move 3\nLI\nLOAD a! 256 1 1 rest 3\nLI\nLOAD a 256 1 1 rest 3 3\nLI\n"
    ++ codes "LOAD a 0.0009 x 0 rest 3\nLI\nLIST\n")
    (codes "ERR 03 SYNTAX\nERR 03 SYNTAX\nERR 03 SYNTAX\nERR 03 SYNTAX\nERR 36 EDGE\nOK LIST 0\n")
unfolding computed
wrong_load = played USUAL 6 nothing _ _ refl refl refl

-- two species: the unlike pair has a step factor and a weight of its own
pub two_species : IsWritten USUAL
    (codes "LOADMIX m 256 Na Cl 1 131072 256 1 262144 512 1 131072 256 rest 26\n2\nmix\nNa 0 0 0\nCl 1.5 0 0\n"
    ++ codes "MEASURE m\nADVANCE m 1\nSHOW m 1\n")
    (codes "OK LOADMIX m 0 2\nOK MEASURE m 0 2 0 0 0 0 -10698264\nOK ADVANCE m 1\nOK SHOW m 1 1 25164646 0 0\n")
unfolding computed
two_species = played USUAL 4 nothing _ _ refl refl refl

-- a weight of 1 leaves 1/256 of the energy, rounded toward zero, and the whole push
pub light_pair : IsWritten USUAL
    (codes "LOADMIX m 256 Na Cl 1 131072 256 1 131072 1 1 131072 256 rest 26\n2\nmix\nNa 0 0 0\nCl 1.5 0 0\n"
    ++ codes "MEASURE m\nADVANCE m 1\nSHOW m 0\n")
    (codes "OK LOADMIX m 0 2\nOK MEASURE m 0 2 0 0 0 0 -20895\nOK ADVANCE m 1\nOK SHOW m 1 0 589 0 0\n")
unfolding computed
light_pair = played USUAL 4 nothing _ _ refl refl refl

-- a symbol given twice, a weight of 0, and an atom of a third species
pub wrong_mixture : IsWritten USUAL
    (codes "LOADMIX m 256 Na Na 1 131072 256 1 131072 256 1 131072 256 rest 2\n1\nLOADMIX m 256 Na Cl 1 131072 256 1 131072 0 1 131072 256 rest 2\n1\n"
    ++ codes "LOADMIX m 256 Na Cl 1 131072 256 1 131072 256 1 131072 256 rest 26\n2\nmix\nNa 0 0 0\nAr 1.5 0 0\n")
    (codes "ERR 03 SYNTAX\nERR 40 WEIGHT\nERR 39 XYZ_SPECIES line 4\n")
unfolding computed
wrong_mixture = played USUAL 3 nothing _ _ refl refl refl

-- a load whose body is cut short is no item
pub cut_body : IsWritten USUAL
    (codes "LIST\nLOAD a 256 1 1 rest 28\n2\ndimer\n")
    (codes "OK LIST 0\n")
unfolding computed
cut_body = played USUAL 1 (short (codes "LOAD a 256 1 1 rest 28") (codes "2\ndimer\n")) _ _ refl refl refl

-- refusals, and BYE, after which nothing is read
pub refusals : IsWritten USUAL
    (codes "LOAD a 256 1 131072 rest 28\n2\ndimer\nAr 0 0 0\nAr 1.5 0 0\nSHOW a 2\nSHOW z 0\nadvance a 1\n"
    ++ codes "ADVANCE a\nADVANCE a 1000001\nRESTORE a q\n\nBYE\nLIST\n")
    (codes "OK LOAD a 0 2\nERR 14 NO_ATOM\nERR 10 NO_SESSION\nERR 06 COMMAND\nERR 03 SYNTAX\nERR 23 STEP_RANGE\n"
    ++ codes "ERR 12 NO_BRANCH\nERR 03 SYNTAX\nOK BYE\n")
unfolding computed
refusals = played USUAL 9 (unread (codes "LIST\n")) _ _ refl refl refl
