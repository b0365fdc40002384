pub mod NearCells
