-- Worked entries of the tables, as theorems by computation.
use Rattle.std.specs.Prelude.{◌≡◌, pos, negsuc, refl}
use Rattle.lj_table.specs.Entries.{push_entry, energy_entry, weighted_energy}

pub push_at_64 : push_entry 64 ≡ pos 91369185901
unfolding push_entry
push_at_64 = refl

pub push_at_287 : push_entry 287 ≡ negsuc 13028152
unfolding push_entry
push_at_287 = refl

pub push_at_288 : push_entry 288 ≡ negsuc 12876993
unfolding push_entry
push_at_288 = refl

pub push_at_799 : push_entry 799 ≡ negsuc 262371
unfolding push_entry
push_at_799 = refl

pub energy_at_64 : energy_entry 64 ≡ pos 3574550947
unfolding energy_entry
energy_at_64 = refl

pub energy_at_287 : energy_entry 287 ≡ negsuc 5399726
unfolding energy_entry
energy_at_287 = refl

pub energy_at_288 : energy_entry 288 ≡ negsuc 5349131
unfolding energy_entry
energy_at_288 = refl

pub energy_at_799 : energy_entry 799 ≡ negsuc 274262
unfolding energy_entry
energy_at_799 = refl

-- the energy of a pair at bin 288 with the least weight, and with twice the whole one
pub energy_at_288_by_weight_1 : weighted_energy 1 (energy_entry 288) ≡ negsuc 20894
unfolding energy_entry
energy_at_288_by_weight_1 = refl

pub energy_at_288_by_weight_512 : weighted_energy 512 (energy_entry 288) ≡ negsuc 10698263
unfolding energy_entry
energy_at_288_by_weight_512 = refl
