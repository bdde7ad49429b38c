mod FewCells
